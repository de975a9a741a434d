-- Text, figures and end are written one behind another.
use Rattle.printer.proofs.Printing.{puts-append}
use Rattle.printer.proofs.write_one.Goals as goal

pub returns : goal.returns
returns c = puts-append (puts-append c.write_text-next.ensures c.write_decimal-next.ensures) c.write_text.ensures
