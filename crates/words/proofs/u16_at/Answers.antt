use Rattle.std.proofs.Common.{arith}
use Rattle.model.specs.Bytes.{word}
use Rattle.words.proofs.u16_at.Goals as goal

pub returns : goal.returns
unfolding word
returns c = omega (arith, c.from_le_bytes.ensures)
