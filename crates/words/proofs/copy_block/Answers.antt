-- Four pairs, one behind the other.
use Rattle.std.proofs.Common.{arith}
use Rattle.words.proofs.Copying.{copy-on}
use Rattle.words.proofs.copy_block.Goals as goal

pub returns : goal.returns
returns c =
    let a = c.args in
    let two = copy-on a.dst.now a.src.now a.at a.from 16 16 c.copy_pair.ensures c.copy_pair-2.ensures (omega arith) (omega arith) (omega arith) in
    let three = copy-on a.dst.now a.src.now a.at a.from 32 16 two c.copy_pair-3.ensures (omega arith) (omega arith) (omega arith) in
    copy-on a.dst.now a.src.now a.at a.from 48 16 three c.copy_pair-4.ensures (omega arith) (omega arith) (omega arith)
