-- The product is the number by definition, and no allowed one is large.
use Prim.Native.Nat.{◌+◌, ◌≤◌}
use mathlib.Core.Path.{refl}
use native.Mathlib.Nat.{mul-le-mul}
use native.Mathlib.Omega.{arith}
use Rattle.model.specs.Geometry.{most_entries}
use Rattle.model.proofs.Sizes.{sizes, most-max}
use Rattle.geometry.proofs.most_entries.Statement.{statement}
use Rattle.geometry.proofs.most_entries.Tie as tie

returns : tie.Need-returns
unfolding most_entries
returns c = refl

add-result : tie.Need-overflow_add-result
add-result c = let z = sizes _ c.requires in omega arith

mul-result : tie.Need-overflow_mul-result
mul-result c =
    let z = sizes _ c.requires in
    let kept : c.args.g.kept + 1 ≤ 33 = omega arith in
    omega (arith, mul-le-mul kept z.pages-max)

sub-result : tie.Need-overflow_sub-result
sub-result c = let z = sizes _ c.requires in omega arith

mul-result-2 : tie.Need-overflow_mul-result-2
mul-result-2 c = omega (arith, returns c, most-max _ c.requires)

pub most_entries_spec : {M : Type 1} → statement M
most_entries_spec = tie.close (tie.spec add-result mul-result sub-result mul-result-2 returns)
