-- A number only grows by figures behind it, so one that passes `most` stays above it.
use Rattle.std.proofs.Common.{sym, arith}
use Rattle.model.proofs.Numbers.{figure-not-plain}
use Rattle.figures.proofs.Reading.{reads_more, reads_over, reads_all, figure-here}
use Rattle.figures.proofs.number_at.Goals as goal

pub returns-then-not-is_plain : goal.returns-then-not-is_plain
returns-then-not-is_plain c = sym (figure-not-plain _ _ (sym c.if-not-is_plain.ensures))

pub bounds-line-i : goal.bounds-line-i
bounds-line-i c = (figure-here _ _ (sym c.loop-d-test.ensures)).0

pub overflow_sub-line : goal.overflow_sub-line
overflow_sub-line c = let w = figure-here _ _ (sym c.loop-d-test.ensures) in omega arith

pub returns-then-most-n : goal.returns-then-most-n
returns-then-most-n c = sym (reads_over _ _ _ _ _ c.loop-d.invariant.1 (sym c.loop-d-test.ensures) (omega arith))

pub returns-then-most-n-2 : goal.returns-then-most-n-2
returns-then-most-n-2 c = sym (reads_over _ _ _ _ _ c.loop-d.invariant.1 (sym c.loop-d-test.ensures) (omega arith))

pub overflow_add-i : goal.overflow_add-i
overflow_add-i c = let w = figure-here _ _ (sym c.loop-d-test.ensures) in omega arith

pub loop-d-smaller : goal.loop-d-smaller
loop-d-smaller c = let w = figure-here _ _ (sym c.loop-d-test.ensures) in omega arith

pub loop-d-preserved : goal.loop-d-preserved
loop-d-preserved c = (omega arith, rw c.from-d.ensures (reads_more _ _ _ _ 0 c.loop-d.invariant.1 (sym c.loop-d-test.ensures)))

pub returns : goal.returns
returns c = sym (reads_all _ _ _ _ _ c.loop-d.invariant.1 (sym c.if-not-is_plain.ensures) (sym c.loop-d-test.ensures) (omega arith))
