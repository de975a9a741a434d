-- What the checks refuse stops the call; on a table the call is that of its own crate.
use Rattle.std.proofs.Common.{refl}
use Rattle.answers.specs.Told.{written}
use Rattle.opening.proofs.Opening.{opened-table, opening-stops}
use Rattle.index.proofs.del.Goals as goal

pub returns-in_err-g : goal.returns-in_err-g
returns-in_err-g c = opening-stops _ _ _ c.in_err-g.ensures written _ tt _ c.from_residual.ensures.1 refl

pub call-requires : goal.call-requires
call-requires c = opened-table _ _ _ c.in_ok-g.ensures
