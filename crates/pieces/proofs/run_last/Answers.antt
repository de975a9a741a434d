-- There is room, so the line is applied; its answer stands whole in `out`.
use Rattle.std.proofs.Common.{arith}
use Rattle.std.proofs.lemmas.Bool.Decides.{nat_tests}
use Rattle.pieces.proofs.Going.{ran-empty, ran-last}
use Rattle.pieces.proofs.run_last.Goals as goal

pub returns-then-is_empty : goal.returns-then-is_empty
returns-then-is_empty g c = ran-empty c.args.line.now _ _ (grind (arith, nat_tests))

pub returns : goal.returns
returns g c = let u = rw c.in-Some.is at c.apply_line.ensures in ran-last c.requires.unended (grind (arith, nat_tests)) u.1
