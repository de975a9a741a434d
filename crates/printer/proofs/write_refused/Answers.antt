-- It is the definition's text of a refusal.
use Rattle.std.proofs.Common.{arith, rules}
use Rattle.printer.proofs.Printing.{room-two}
use Rattle.model.specs.Session.{answer_text}
use Rattle.printer.proofs.write_refused.Goals as goal

pub write_two-requires : goal.write_two-requires
write_two-requires c = room-two _ _ _ (omega arith) (omega arith) _ _

pub returns : goal.returns
unfolding answer_text
returns c = search rules
