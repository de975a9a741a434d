-- The figures end where they should, so they begin where they should.
use Rattle.std.proofs.Common.{◌≡◌, arith, sym}
use Rattle.std.specs.Fmt as std
use Rattle.model.specs.Text.{decimal}
use Rattle.printer.proofs.Figures.{decimal_std}
use Rattle.printer.proofs.Printing.{puts-ending}
use Rattle.printer.proofs.write_decimal.Goals as goal

pub returns : goal.returns
returns c =
    let w = c.write_digits.ensures in
    let figures : std.decimal c.args.n ≡ decimal c.args.n = decimal_std _ (omega arith) in
    let size = c.decimal_length.ensures in
    rw size (puts-ending _ _ _ c.write_digits.result _ (rw (figures, size) at w.start) c.requires w.before (rw (figures, size) at w.written))
