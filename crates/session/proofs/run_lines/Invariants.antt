-- The loop's invariant: what was taken is whole lines, and their run stands in `out` and in both areas.
use Rattle.std.proofs.Common.{◌-◌, ◌≤◌, length, take}
use Rattle.answers.specs.Performs.{areas}
use Rattle.lines.specs.Lines.{ended_lines, Whole}
use Rattle.session.specs.Promises.{taken_of, Ran}
use Rattle.session.proofs.Taking.{Goes}
use Rattle.session.proofs.run_lines.Given as goal

abbrev pub invariant-loop-end : goal.invariant-loop-end
invariant-loop-end l =
    let before = areas l.initial.memory l.initial.flash in
    let now = areas l.memory l.flash in
    let room = length l.initial.out in
    (l.taken ≤ length l.input)
    × Whole (take l.taken l.input)
    × Ran (take l.taken l.input) before l.initial.out l.printed l.out now
    × Goes (taken_of (ended_lines l.input) before room) l.input l.taken now room l.printed

abbrev pub decreases-loop-end : goal.decreases-loop-end
decreases-loop-end l = length l.input - l.taken
