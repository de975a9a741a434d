-- Each case writes the definition's text of it.
use Rattle.std.proofs.Common.{arith, rules}
use Rattle.printer.proofs.Printing.{room-one}
use Rattle.model.specs.Session.{answer_text}
use Rattle.printer.proofs.write_written.Goals as goal

pub write_one-requires : goal.write_one-requires
write_one-requires c = room-one _ _ _ (omega arith) (omega arith) _

pub returns-in-Ok : goal.returns-in-Ok
unfolding answer_text
returns-in-Ok c = search rules
