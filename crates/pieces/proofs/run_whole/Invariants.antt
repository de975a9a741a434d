-- The loop's invariant: the lines taken are whole, and both areas are as these leave them.
use Rattle.std.proofs.Common.{◌≡◌, ◌-◌, length}
use Rattle.answers.specs.Performs.{areas}
use Rattle.pieces.specs.Pieces.{Went}
use Rattle.pieces.proofs.run_whole.Given as goal

abbrev pub invariant-loop-taken : goal.invariant-loop-taken
invariant-loop-taken g l =
    (length l.memory ≡ length l.initial.memory)
    × (length l.flash ≡ length l.initial.flash)
    × (length l.out ≡ length l.initial.out)
    × Went l.taken l.input (areas l.initial.memory l.initial.flash) (areas l.memory l.flash)

abbrev pub decreases-loop-taken : goal.decreases-loop-taken
decreases-loop-taken g l = length l.input - l.taken
