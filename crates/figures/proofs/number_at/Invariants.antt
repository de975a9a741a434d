-- The figures from `at` on say what those from `i` on say behind n, and end where those end.
use Rattle.std.proofs.Common.{◌≤◌, ◌-◌, length}
use Rattle.figures.proofs.Reading.{Reads}
use Rattle.figures.proofs.number_at.Given as goal

abbrev pub invariant-loop-d : goal.invariant-loop-d
invariant-loop-d l = (l.n ≤ l.most) × Reads l.line l.at l.n l.i

abbrev pub decreases-loop-d : goal.decreases-loop-d
decreases-loop-d l = length l.line - l.i
