-- Each number is written where its bytes belong.
use Rattle.std.proofs.Common.{◌+◌, arith, rules}
use Rattle.words.proofs.Copying.{copy-word, copy-on}
use Rattle.words.proofs.copy_pair.Goals as goal

pub returns : goal.returns
returns c =
    let a = c.args in
    let low = copy-word a.dst.now a.src.now a.at a.from 8 (λ i. search rules) (omega arith) c.write_u64.ensures (omega arith) (omega arith) in
    let high = copy-word _ a.src.now (a.at + 8) (a.from + 8) 8 (λ i. search rules) (omega arith) c.write_u64-2.ensures (omega arith) (omega arith) in
    copy-on a.dst.now a.src.now a.at a.from 8 8 low high (omega arith) (omega arith) (omega arith)
