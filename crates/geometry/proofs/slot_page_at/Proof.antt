-- The product is the offset by definition; slot and block are numbers below their counts.
use mathlib.Core.Path.{refl}
use Prim.Native.Nat.{◌+◌, ◌*◌, ◌<◌}
use native.Mathlib.Nat.{mul-le-mul}
use native.Mathlib.Omega.{arith}
use lib.Arith.{digits_lt}
use borrow.Author.Rules.{rules}
use Rattle.model.specs.Geometry.{slot_page_at}
use Rattle.model.proofs.Sizes.{sizes, slot-page-fits, flash-max}
use Rattle.geometry.proofs.slot_page_at.Statement.{statement}
use Rattle.geometry.proofs.slot_page_at.Tie as tie

returns : tie.Need-returns
unfolding slot_page_at
returns c = refl

-- below 256 * 32 slots, and below 64 blocks for each
few : (c : tie.After-struct_known-1) → let a = c.args in (a.t * a.g.kept + a.j < 8192) × ((a.t * a.g.kept + a.j) * a.g.pages + a.q < 524288)
few c =
    let p = c.requires in
    let z = sizes _ p.0 in
    let slots = digits_lt p.1.0 p.1.1.0 in
    let most = mul-le-mul z.partitions-max z.kept-max in
    omega (arith, slots, most, digits_lt slots p.1.1.1, mul-le-mul most z.pages-max)

mul-result : tie.Need-overflow_mul-result
mul-result c =
    let p = c.requires in
    omega (arith, returns c, slot-page-fits c.args.g _ _ _ p.1.0 p.1.1.0 p.1.1.1, flash-max _ p.0)

pub slot_page_at_spec : {M : Type 1} → statement M
slot_page_at_spec = tie.close (tie.spec (λ c. search rules) (λ c. omega (arith, few c)) (λ c. omega (arith, few c)) (λ c. search rules) (λ c. omega (arith, few c.before)) (λ c. omega (arith, few c.before)) (λ c. search rules) mul-result returns)
