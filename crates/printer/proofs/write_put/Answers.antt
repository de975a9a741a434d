-- It is the definition's text of a line.
use Rattle.std.proofs.Common.{arith, rules}
use Rattle.model.specs.PartitionText.{put_text}
use Rattle.printer.proofs.Printing.{length-put-text}
use Rattle.printer.proofs.write_put.Goals as goal

pub write_two-requires : goal.write_two-requires
write_two-requires c = omega (arith, length-put-text c.args.key c.args.value)

pub returns : goal.returns
unfolding put_text
returns c = search rules
