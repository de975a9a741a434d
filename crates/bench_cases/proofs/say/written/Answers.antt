-- The text ends within its 72 bytes, and has a last byte to leave out.
use Rattle.std.proofs.Common.{arith, sym}
use Rattle.std.proofs.Math.Seq.{length-take-le}
use Rattle.bench_cases.proofs.Texts.{written-length}
use Rattle.bench_cases.proofs.say.written.Goals as goal

pub overflow_sub-end : goal.overflow_sub-end
overflow_sub-end g c = omega (arith, written-length c.args.answer)

pub slice_bounds-line-end : goal.slice_bounds-line-end
slice_bounds-line-end g c = omega (arith, written-length c.args.answer)

pub slice_bounds-text-end-2 : goal.slice_bounds-text-end-2
slice_bounds-text-end-2 g c = sym (length-take-le _ _ (omega (arith, written-length c.args.answer)))
