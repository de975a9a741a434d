-- Each case writes the definition's text of it.
use Rattle.std.proofs.Common.{arith, rules}
use Rattle.printer.proofs.Printing.{room-two, room-three}
use Rattle.model.specs.Session.{answer_text}
use Rattle.printer.proofs.write_answer.Goals as goal

pub write_three-requires : goal.write_three-requires
write_three-requires c = room-three _ _ _ (omega arith) (omega arith) _ _ _

pub write_two-requires : goal.write_two-requires
write_two-requires c = room-two _ _ _ (omega arith) (omega arith) _ _

pub returns-in-Ok-Found : goal.returns-in-Ok-Found
unfolding answer_text
returns-in-Ok-Found c = search rules

pub returns-in-Ok-Absent : goal.returns-in-Ok-Absent
unfolding answer_text
returns-in-Ok-Absent c = search rules
