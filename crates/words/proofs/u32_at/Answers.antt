use Rattle.std.proofs.Common.{◌≡◌, ◌+◌, arith}
use Rattle.model.specs.Bytes.{word}
use Rattle.words.proofs.u32_at.Goals as goal

pub returns : goal.returns
unfolding word
returns c =
    let at = c.args.at in
    let second : at + 1 + 1 ≡ at + 2 = omega arith in
    let third : at + 2 + 1 ≡ at + 3 = omega arith in
    rw (second, third) (omega (arith, c.from_le_bytes.ensures))
