-- Blocks of s bytes one after the other: block q begins at q * s. A product of two variables is an unknown to omega, and these laws tell it what it needs.
use mathlib.Core.Path.{◌≡◌, sym, ◌∙◌, ap}
use mathlib.Core.Logic.{⊎_elim}
use Prim.Native.Nat.{ℕ, ◌+◌, ◌*◌, ◌/◌, ◌%◌, ◌≤◌, ◌<◌}
use native.Mathlib.Nat.{mul-le-mul_right, suc-mul}
use native.Mathlib.Omega.{arith}
use lib.Arith.{digits_div, digits_mod}
use Rattle.model.proofs.Parts.{Apart, lt-or-ge}

-- a block below n ends by n * s
pub block-le : (q n s : ℕ) → q < n → q * s + s ≤ n * s
block-le q n s l = omega (arith, mul-le-mul_right s l, suc-mul q s)

-- two blocks lie apart
pub blocks-apart : (a q r s : ℕ) → (q ≡ r → ⊥) → Apart (a + q * s) s (a + r * s) s
blocks-apart a q r s h = ⊎_elim (λ (l : q < r). omega (arith, block-le q r s l)) (λ (g : r ≤ q). omega (arith, block-le r q s (omega arith))) (lt-or-ge q r)

-- a number t * n + q, with q below n, has one t and one q
pub digits-one : (n t q t' q' : ℕ) → q < n → q' < n → t * n + q ≡ t' * n + q' → (t ≡ t') × (q ≡ q')
digits-one n t q t' q' l l' e = (sym (digits_div t l) ∙ ap (λ (x : ℕ). x / n) e ∙ digits_div t' l', sym (digits_mod t l) ∙ ap (λ (x : ℕ). x % n) e ∙ digits_mod t' l')
