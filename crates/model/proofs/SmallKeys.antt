-- A key below 2^18 stays below 2^48 when it is mixed, so in every geometry it belongs to page 0 of partition 0.
use Prim.Native.Nat.{ℕ, ◌+◌, ◌-◌, ◌*◌, ◌/◌, ◌%◌, ◌^◌, ◌≤◌, ◌<◌}
use mathlib.Core.Bool.{true}
use mathlib.Core.Path.{◌≡◌}
use native.Mathlib.Omega.{arith}
use native.Mathlib.Nat.{zero-mod, div-eq_of_lt}
use lib.Pow.{pow_mono, shl_lt, shl_exact, shr_le}
use lib.Bits.{xor_lt}
use Rattle.model.specs.declared.Geometry.{Geometry}
use Rattle.model.specs.Geometry.{allowed}
use Rattle.model.specs.Keys.{partition_of, page_of, mixed, xor_left, xor_right}
use Rattle.model.proofs.Sizes.{sizes}

left_lt : (n j x : ℕ) → x < 2 ^ j → j + n ≤ 64 → xor_left n x < 2 ^ (j + n)
left_lt n j x l fits =
    let shifted : x * 2 ^ n % 2 ^ 64 < 2 ^ (j + n) = rw (shl_exact j n 64 l fits) (shl_lt j n l) in
    xor_lt (j + n) x (x * 2 ^ n % 2 ^ 64) (omega (arith, pow_mono {i = j} {j = j + n} (omega arith))) shifted

right_lt : (n j x : ℕ) → x < 2 ^ j → xor_right n x < 2 ^ j
right_lt n j x l = xor_lt j x (x / 2 ^ n) l (omega (arith, shr_le x n))

module _ (g : Geometry) (k : ℕ) (small : k < 2 ^ 18) where
  mixed-small : mixed k < 2 ^ 48
  unfolding mixed
  mixed-small = left_lt 17 31 _ (right_lt 7 31 _ (left_lt 13 18 k small (omega arith))) (omega arith)

  pub small-page : page_of g k ≡ 0
  unfolding page_of
  small-page = rw (div-eq_of_lt mixed-small) (zero-mod g.pages)

  pub small-partition : allowed g ≡ true → partition_of g k ≡ 0
  unfolding partition_of
  small-partition ok = div-eq_of_lt (omega (arith, pow_mono {i = 18} {j = 64 - g.parts} (omega (arith, (sizes g ok).parts-max))))
