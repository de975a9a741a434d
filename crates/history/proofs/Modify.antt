-- A family changed at one index: what holds of each member, changed twice, and in step with another.
use Prim.Native.Nat.{ℕ}
use mathlib.Core.Bool.{Bool, true, false, cond}
use mathlib.Core.Path.{◌≡◌, refl, fun_ext}
use lib.Dec.{eqb}
use native.Mathlib.Decide.{ℕ_discrete}
use Rattle.model.proofs.Partitions.{modify, modify-at, modify-off}

-- what holds of each member, and of the changed one
pub modify-all : {A : Type 0} (P : ℕ → A → Type 0) (t : ℕ) (c : A → A) (f : ℕ → A) → ((u : ℕ) → u ≡ t → P u (c (f u))) → ((u : ℕ) → (u ≡ t → ⊥) → P u (f u))
    → (u : ℕ) → P u (modify t c f u)
modify-all P t c f at off u = elim (ℕ_discrete u t) [
  | yes e ↦ rw (modify-at t c f u e) (at u e)
  | no e ↦ rw (modify-off t c f u e) (off u e)
]

-- two things that hang on one test, in step
pub cond_both : {A B : Type 0} (P : A → B → Type 0) (b : Bool) {x x' : A} {y y' : B}
    → P x y → P x' y' → P (cond b x x') (cond b y y')
cond_both P true p q = p
cond_both P false p q = q

-- two changes at one index are one
pub modify-twice : {A : Type 0} (t : ℕ) (c d : A → A) (f : ℕ → A) → modify t c (modify t d f) ≡ modify t (λ x. c (d x)) f
unfolding modify
modify-twice {A} t c d f = fun_ext (λ u. twice (eqb u t) (f u))
  where
    twice : (b : Bool) (x : A) → cond b (c (cond b (d x) x)) (cond b (d x) x) ≡ cond b (c (d x)) x
    twice true x = refl
    twice false x = refl
