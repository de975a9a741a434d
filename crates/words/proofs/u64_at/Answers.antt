use Rattle.std.proofs.Common.{arith}
use Rattle.model.proofs.Words.{word-add}
use Rattle.words.proofs.u64_at.Goals as goal

pub returns : goal.returns
returns c = rw (word-add 4 4) (omega arith)
