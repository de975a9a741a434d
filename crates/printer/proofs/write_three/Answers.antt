-- All behind the first number is written as an answer of two numbers whose text is a space.
use Rattle.model.specs.Text.{text, decimal}
use Rattle.printer.proofs.Printing.{puts-append, puts-five}
use Rattle.printer.proofs.write_three.Goals as goal

pub returns : goal.returns
returns c =
    let a = c.args in
    puts-five (text " ") (decimal a.b) (text " ") (decimal a.c) (text ")\n") (puts-append c.write_text-next.ensures c.write_decimal-next.ensures) c.write_two.ensures
