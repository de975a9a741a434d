-- A number of at most 4294967295 fits 32 bits.
use Rattle.std.proofs.Common.{sym}
use Rattle.figures.proofs.Reading.{read_below}
use Rattle.figures.proofs.narrow_past.Goals as goal

pub overflow_cast-result : goal.overflow_cast-result
overflow_cast-result c = record { fits = read_below _ _ _ _ (sym c.in_ok-n.ensures) }
