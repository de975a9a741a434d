-- 2 ^ 8 at most is not shifted out.
use native.Mathlib.Omega.{arith}
use Rattle.model.proofs.Sizes.{sizes}
use Rattle.geometry.proofs.partition_count.Statement.{statement}
use Rattle.geometry.proofs.partition_count.Tie as tie

shl-result : tie.Need-overflow_shl-result
shl-result c = let z = sizes _ c.requires in omega arith

returns : tie.Need-returns
returns c = let z = sizes _ c.requires in omega arith

pub partition_count_spec : {M : Type 1} → statement M
partition_count_spec = tie.close (tie.spec shl-result returns)
