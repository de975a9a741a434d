-- Powers of two, as `is_power` tests for them, and as code tests for them.
use mathlib.Core.Bool.{Bool, true, false, false≢true}
use mathlib.Core.Path.{◌≡◌, refl, sym, ◌∙◌, ap}
use mathlib.Core.Logic.{⊎_elim}
use Rattle.std.specs.Prelude.{Option, None, Some}
use Prim.Native.Nat.{ℕ, suc, ◌+◌, ◌-◌, ◌*◌, ◌/◌, ◌%◌, ◌^◌, ◌≤◌, ◌<◌}
use native.Mathlib.Nat.{sub-add_cancel, mod_self, one-mul, pow-suc}
use native.Mathlib.Omega.{arith}
use lib.Arith.{bin_ind}
use lib.Dec.{leb}
use lib.Bits.{bit_and, and_step, and_self, and_mask}
use lib.Pow.{pow-add, pow-lt, pow_mono, shl_exact}
use borrow.Author.Tests.{eqb-true, eq-eqb, le-leb, lt-leb}
use Rattle.model.specs.Search.{first_from, any_from}
use Rattle.model.specs.Geometry.{is_power}
use Rattle.model.proofs.Parts.{lt-or-ge}
use Rattle.model.proofs.Searching.{First, first-at, first-none}

-- where there is one that passes the test, this is the first
pub any-one : (n i : ℕ) (test : ℕ → Bool) → any_from n i test ≡ true → (k : ℕ) × First test n i k
any-one n i test h = go (first_from n i test) refl
  where
    go : (o : Option ℕ) → first_from n i test ≡ o → (k : ℕ) × First test n i k
    go (Some k) e = (k, first-at test n i k e)
    go None e = absurd (false≢true (rw e at h))

-- and where this one passes, there is one
pub one-any : (n i : ℕ) (test : ℕ → Bool) (k : ℕ) → i ≤ k → k < i + n → test k ≡ true → any_from n i test ≡ true
one-any n i test k l h p = go (first_from n i test) refl
  where
    go : (o : Option ℕ) → first_from n i test ≡ o → any_from n i test ≡ true
    go (Some j) e = rw e
    go None e = absurd (false≢true (sym (first-none test n i e k l h) ∙ p))

pub false-if : (b : Bool) → (b ≡ true → ⊥) → b ≡ false
false-if true h = absurd (h refl)
false-if false h = refl

-- ---- is_power
module _ (low high n : ℕ) where
  pub power : is_power low high n ≡ true → (k : ℕ) × (low ≤ k) × (k ≤ high) × (n ≡ 2 ^ k)
  unfolding is_power
  power h = let w = any-one (suc high - low) low _ h in (w.0, w.1.low, omega arith, eqb-true _ _ w.1.passed)

  pub is-power : (k : ℕ) → low ≤ k → k ≤ high → n ≡ 2 ^ k → is_power low high n ≡ true
  unfolding is_power
  is-power k l h e = one-any (suc high - low) low _ k l (omega arith) (eq-eqb _ _ e)

  pub no_power : ((k : ℕ) → low ≤ k → k ≤ high → n ≡ 2 ^ k → ⊥) → is_power low high n ≡ false
  no_power h = false-if (is_power low high n) (λ e. let w = power e in h w.0 w.1 w.2 w.3)

-- a power of two is a multiple of each lower one
pub power-multiple : (j k : ℕ) → j ≤ k → 2 ^ k ≡ 2 ^ (k - j) * 2 ^ j
power-multiple j k l = ap (λ (n : ℕ). 2 ^ n) (sym (sub-add_cancel l)) ∙ pow-add 2 (k - j) j

-- a bit shifted to its place
pub one_shifted : (w k : ℕ) → k < w → 1 * 2 ^ k % 2 ^ w ≡ 2 ^ k
one_shifted w k l = shl_exact 1 k w (omega arith) (omega arith) ∙ one-mul (2 ^ k)

-- the mask that takes a remainder
pub mask : (low high m x : ℕ) → is_power low high m ≡ true → bit_and x (m - 1) ≡ x % m
mask low high m x h = let w = power low high m h in rw w.3 (and_mask x w.0)

-- ---- a power of two has no digit in common with the number before it, and no other number but 0 has none
pub power-and : (k : ℕ) → bit_and (2 ^ k) (2 ^ k - 1) ≡ 0
power-and k = and_mask (2 ^ k) k ∙ mod_self (2 ^ k)

pub and-power : (n : ℕ) → 0 < n → bit_and n (n - 1) ≡ 0 → (k : ℕ) × (n ≡ 2 ^ k)
and-power = bin_ind (λ (n : ℕ). 0 < n → bit_and n (n - 1) ≡ 0 → (k : ℕ) × (n ≡ 2 ^ k)) (λ l e. absurd (omega arith)) (λ n more l e. ⊎_elim (even n more l e) (odd n e) (lt-or-ge (n % 2) 1))
  where
    even : (n : ℕ) → (0 < n / 2 → bit_and (n / 2) (n / 2 - 1) ≡ 0 → (k : ℕ) × (n / 2 ≡ 2 ^ k)) → 0 < n → bit_and n (n - 1) ≡ 0 → n % 2 < 1 → (k : ℕ) × (n ≡ 2 ^ k)
    even n more l e o =
        let h : (n - 1) / 2 ≡ n / 2 - 1 = omega arith in
        let s = rw h at (and_step n (n - 1)) in
        let w = more (omega arith) (omega arith) in
        (suc w.0, twice w.0 w.1)
      where
        twice : (k : ℕ) → n / 2 ≡ 2 ^ k → n ≡ 2 ^ suc k
        twice k e' = rw (pow-suc 2 k) (omega arith)

    odd : (n : ℕ) → bit_and n (n - 1) ≡ 0 → 1 ≤ n % 2 → (k : ℕ) × (n ≡ 2 ^ k)
    odd n e o =
        let h : (n - 1) / 2 ≡ n / 2 = omega arith in
        let s = rw h at (and_step n (n - 1)) in
        (0, omega (arith, and_self (n / 2)))

-- so a number not 0 that has none, and is no lower than the lowest, is tested by its size
pub power-test : (low high n : ℕ) → 0 < n → bit_and n (n - 1) ≡ 0 → 2 ^ low ≤ n → is_power low high n ≡ leb n (2 ^ high)
power-test low high n l e b = ⊎_elim above within (lt-or-ge (2 ^ high) n)
  where
    k : (k : ℕ) × (n ≡ 2 ^ k)
    k = and-power n l e

    above : 2 ^ high < n → is_power low high n ≡ leb n (2 ^ high)
    above a = no_power low high n (λ j p q r. let m = pow_mono q in omega arith) ∙ sym (lt-leb n (2 ^ high) a)

    within : n ≤ 2 ^ high → is_power low high n ≡ leb n (2 ^ high)
    within a = is-power low high n k.0 (least k.0 low (omega (arith, k.1))) (least high k.0 (omega (arith, k.1))) k.1 ∙ sym (le-leb n (2 ^ high) a)
      where
        least : (i j : ℕ) → 2 ^ j ≤ 2 ^ i → j ≤ i
        least i j h = ⊎_elim (λ (m : i < j). let p = pow-lt m in absurd (omega arith)) (λ (m : j ≤ i). m) (lt-or-ge i j)
