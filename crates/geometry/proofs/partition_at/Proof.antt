-- The sum is the offset by definition, and no allowed offset is large.
use native.Mathlib.Omega.{arith}
use borrow.Author.Rules.{rules}
use Rattle.model.specs.Geometry.{partition_at}
use Rattle.model.proofs.Sizes.{partition-at-max}
use Rattle.geometry.proofs.partition_at.Statement.{statement}
use Rattle.geometry.proofs.partition_at.Tie as tie

returns : tie.Need-returns
unfolding partition_at
returns c = rw c.partition_size.ensures

mul-result : tie.Need-overflow_mul-result
mul-result c = omega (arith, returns c, partition-at-max _ c.requires.0 _ c.requires.1)

add-result : tie.Need-overflow_add-result
add-result c = omega (arith, returns c, partition-at-max _ c.requires.0 _ c.requires.1)

pub partition_at_spec : {M : Type 1} → statement M
partition_at_spec = tie.close (tie.spec (λ c κs. search rules) mul-result add-result returns)
