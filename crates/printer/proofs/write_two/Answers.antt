-- The second number and the end are written as an answer of one number whose text is a space.
use Rattle.model.specs.Text.{text, decimal}
use Rattle.printer.proofs.Printing.{puts-append, puts-three}
use Rattle.printer.proofs.write_two.Goals as goal

pub returns : goal.returns
returns c = puts-three (text " ") (decimal c.args.b) (text ")\n") (puts-append c.write_text-next.ensures c.write_decimal-next.ensures) c.write_one.ensures
