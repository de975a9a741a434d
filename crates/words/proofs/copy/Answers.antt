use Rattle.std.proofs.Common.{◌≡◌, ◌+◌, ◌*◌, ◌/◌, arith}
use Rattle.words.proofs.Copying.{copy-on, copy-rest}
use Rattle.words.proofs.copy.Goals as goal

pub loop-block-preserved : goal.loop-block-preserved
loop-block-preserved c =
    let a = c.args in
    let l = c.loop-block in
    let more : 64 * (l.block + 1) ≡ 64 * l.block + 64 = omega arith in
    rw more (copy-on a.dst.now a.src.now a.at a.from (64 * l.block) 64 l.invariant c.copy_block.ensures (omega arith) (omega arith) (omega arith))

pub returns-then-done-n : goal.returns-then-done-n
returns-then-done-n c =
    let a = c.args in
    let whole : c.loop-block.block ≡ a.n / 64 = omega arith in
    copy-rest a.dst.now a.src.now a.at a.from (64 * (a.n / 64)) a.n (rw (← whole) c.loop-block.invariant) (omega arith) c.requires.n_in_bounds c.requires.n_in_bounds_2 c.copy_from_slice.ensures.after
