-- Lines are run before their answers are written.
use Rattle.std.proofs.Common.{arith, refl, ◌+◌}
use Rattle.pieces.proofs.Going.{went-none, went-more, went-same, went-all, went-err}
use Rattle.pieces.proofs.run_whole.Goals as goal

pub loop-taken-init : goal.loop-taken-init
loop-taken-init g c = (refl, refl, refl, went-none _ _)

pub returns-in_err-write_all : goal.returns-in_err-write_all
returns-in_err-write_all g c =
    let t = c.run_lines-run.ensures in
    let w = c.loop-taken.invariant.3 in
    went-err _ c.from_residual.ensures.0 (record { taken = c.loop-taken.taken + c.run_lines-run.result.taken; some = omega arith; went = went-more _ _ w.within _ _ _ t.takes w t.ran })

pub loop-taken-preserved : goal.loop-taken-preserved
loop-taken-preserved g c =
    let t = c.run_lines-run.ensures in
    let w = c.loop-taken.invariant.3 in
    (omega arith, omega arith, omega arith, went-more _ _ w.within _ _ _ t.takes w t.ran)

pub returns-then-run-eq0 : goal.returns-then-run-eq0
returns-then-run-eq0 g c =
    let t = c.run_lines-run.ensures in
    let w = c.loop-taken.invariant.3 in
    (went-same _ _ w.within _ _ _ t.takes c.if-run-eq0.true w t.ran, went-all c.args.input.now _ w.within _ _ _ t.takes c.if-run-eq0.true (omega arith) t.ran)
