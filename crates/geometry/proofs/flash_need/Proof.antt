-- The product is the need by definition; each factor has its bound.
use native.Mathlib.Nat.{mul-le-mul}
use native.Mathlib.Omega.{arith}
use borrow.Author.Rules.{rules}
use Rattle.model.specs.Geometry.{flash_need}
use Rattle.model.proofs.Sizes.{sizes, flash-max}
use Rattle.geometry.proofs.flash_need.Statement.{statement}
use Rattle.geometry.proofs.flash_need.Tie as tie

returns : tie.Need-returns
unfolding flash_need
returns c = rw c.partition_count.ensures

mul-slots : tie.Need-overflow_mul-slots
mul-slots c = let z = sizes _ c.requires in rw c.partition_count.ensures (omega (arith, mul-le-mul z.partitions-max z.kept-max))

mul-result : tie.Need-overflow_mul-result
mul-result c = let z = sizes _ c.requires in rw c.partition_count.ensures (omega (arith, mul-le-mul (mul-le-mul z.partitions-max z.kept-max) z.pages-max))

mul-result-2 : tie.Need-overflow_mul-result-2
mul-result-2 c = omega (arith, returns c, flash-max _ c.requires)

pub flash_need_spec : {M : Type 1} → statement M
flash_need_spec = tie.close (tie.spec (λ c κs. search rules) (λ c. search rules) (λ c. search rules) mul-slots (λ c. search rules) mul-result (λ c. search rules) mul-result-2 returns)
