-- The sum is the offset by definition, and no allowed offset is large.
use Prim.Native.Nat.{◌≤◌}
use native.Mathlib.Omega.{arith}
use borrow.Author.Rules.{rules}
use Rattle.model.specs.Geometry.{buffer_at}
use Rattle.model.proofs.Sizes.{filter-at-max, buffer-at-max}
use Rattle.geometry.proofs.buffer_at.Statement.{statement}
use Rattle.geometry.proofs.buffer_at.Tie as tie

returns : tie.Need-returns
unfolding buffer_at
returns c = rw c.filter_at.ensures

bound : (c : tie.After-struct_known-1) → let a = c.args in buffer_at a.g a.q ≤ 540688
bound c = let p = c.requires in buffer-at-max _ p.0 _ p.1

cast-result : tie.Need-overflow_cast-result
cast-result c = omega (arith, c.filter_at.ensures, filter-at-max _ c.requires.0 c.args.g.kept (omega arith))

mul-result : tie.Need-overflow_mul-result
mul-result c = omega (arith, returns c, bound c)

add-result : tie.Need-overflow_add-result
add-result c = omega (arith, returns c, bound c)

cast-result-2 : tie.Need-overflow_cast-result-2
cast-result-2 c = omega (arith, returns c, bound c)

pub buffer_at_spec : {M : Type 1} → statement M
buffer_at_spec = tie.close (tie.spec (λ c κs. search rules) cast-result mul-result add-result cast-result-2 returns)
