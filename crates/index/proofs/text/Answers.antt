-- What the checks refuse stops the call, and leaves the text area as it was; on a table the call is that of its own crate.
use Rattle.std.proofs.Common.{refl, sym}
use Rattle.model.proofs.Calls.{text-unwritten}
use Rattle.answers.specs.Told.{written}
use Rattle.opening.proofs.Opening.{opened-table, refuses, opening-stops}
use Rattle.index.proofs.text.Goals as goal

pub returns-in_err-g-clause-performs : goal.returns-in_err-g-clause-performs
returns-in_err-g-clause-performs c = opening-stops _ _ _ c.in_err-g.ensures written _ tt _ c.from_residual.ensures.1 refl

pub returns-in_err-g-clause-text_after : goal.returns-in_err-g-clause-text_after
returns-in_err-g-clause-text_after c = sym (text-unwritten _ _ _ _ _ (sym (refuses _ _ _ c.in_err-g.ensures _ tt).answers))

pub call-requires : goal.call-requires
call-requires c = opened-table _ _ _ c.in_ok-g.ensures
