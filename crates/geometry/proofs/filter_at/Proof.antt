-- The sum is the offset by definition, and no allowed offset is large.
use Prim.Native.Nat.{◌≤◌}
use native.Mathlib.Omega.{arith}
use borrow.Author.Rules.{rules}
use Rattle.model.specs.Geometry.{filter_at}
use Rattle.model.proofs.Sizes.{sizes, filter-at-max}
use Rattle.geometry.proofs.filter_at.Statement.{statement}
use Rattle.geometry.proofs.filter_at.Tie as tie

returns : tie.Need-returns
unfolding filter_at
returns c = rw c.filter_size.ensures

bound : (c : tie.After-filter_size) → let a = c.args in filter_at a.g a.j ≤ 278544
bound c = let p = c.requires in filter-at-max _ p.0 _ p.1

mul-result : tie.Need-overflow_mul-result
mul-result c = let z = sizes _ c.requires.0 in omega arith

add-result : tie.Need-overflow_add-result
add-result c = let z = sizes _ c.requires.0 in omega arith

mul-result-2 : tie.Need-overflow_mul-result-2
mul-result-2 c = omega (arith, returns c, bound c)

add-result-2 : tie.Need-overflow_add-result-2
add-result-2 c = omega (arith, returns c, bound c)

cast-result : tie.Need-overflow_cast-result
cast-result c = omega (arith, returns c, bound c)

pub filter_at_spec : {M : Type 1} → statement M
filter_at_spec = tie.close (tie.spec mul-result add-result (λ c κs. search rules) mul-result-2 add-result-2 cast-result returns)
