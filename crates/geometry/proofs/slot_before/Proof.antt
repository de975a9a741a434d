-- One less, or the last slot before the first.
use Prim.Native.Nat.{ℕ, suc, ◌+◌, ◌-◌, ◌%◌, ◌≤◌, ◌<◌}
use mathlib.Core.Logic.{◌⊎◌, inl, inr, ⊎_elim}
use mathlib.Core.Path.{◌≡◌, sym, ◌∙◌, ap}
use native.Mathlib.Nat.{mod-lt, mod_self, mod-eq_of_lt, suc-mod}
use native.Mathlib.Omega.{arith}
use borrow.Author.Rules.{rules}
use Rattle.model.proofs.Parts.{lt-or-ge}
use Rattle.model.proofs.Sizes.{sizes}
use Rattle.geometry.proofs.slot_before.Statement.{statement}
use Rattle.geometry.proofs.slot_before.Tie as tie

-- the remainder rises by one, or from the last to 0
rises : (k m : ℕ) → 1 ≤ k → ((suc (m % k) < k) × (suc m % k ≡ suc (m % k))) ⊎ ((suc (m % k) ≡ k) × (suc m % k ≡ 0))
rises k m h =
    let l : m % k < k = mod-lt m (omega arith) in
    ⊎_elim (λ (low : suc (m % k) < k). inl (low, suc-mod m k ∙ mod-eq_of_lt low))
    (λ (high : k ≤ suc (m % k)). let e : suc (m % k) ≡ k = omega arith in inr (e, suc-mod m k ∙ ap (λ (x : ℕ). x % k) e ∙ mod_self k))
    (lt-or-ge (suc (m % k)) k)

falls : (k n j : ℕ) → 1 ≤ k → 1 ≤ n → j ≡ (n + 1 - 1) % k → (j ≡ 0 → k - 1 ≡ (n - 1) % k) × ((j ≡ 0 → ⊥) → j - 1 ≡ (n - 1) % k)
falls k n j h l e =
    let e' : suc (n - 1) ≡ n + 1 - 1 = omega arith in
    let e'' : j ≡ suc (n - 1) % k = e ∙ ap (λ (x : ℕ). x % k) (sym e') in
    ⊎_elim (λ w. (omega arith, omega arith)) (λ w. (omega arith, omega arith)) (rises k (n - 1) h)

pub slot_before_spec : {M : Type 1} → statement M
slot_before_spec = tie.close (tie.spec (λ c. let z = sizes _ c.requires in omega arith) (λ c n l e. (falls _ n _ (sizes _ c.requires).kept-min l e).0 (omega arith)) (λ c. search rules) (λ c n l e. (falls _ n _ (sizes _ c.requires).kept-min l e).1 (omega arith)))
