-- Sums: of which parts are the same, of which one changed, and what one part is at most.
use Prim.Native.Nat.{ℕ, zero, suc, ◌+◌, ◌-◌, ◌*◌, ◌≤◌, ◌<◌}
use mathlib.Core.Path.{◌≡◌, refl, ap}
use native.Mathlib.Omega.{arith}
use native.Mathlib.Decide.{ℕ_discrete}
use native.Mathlib.Nat.{suc-mul}
use native.Mathlib.Numerals.{add-one}
use Rattle.model.specs.Batch.{sum}

pub sum-zero : (n : ℕ) → sum n (λ t. 0) ≡ 0
unfolding sum
sum-zero zero = refl
sum-zero (suc n) = omega (arith, sum-zero n)

pub sum_same : (n : ℕ) (f f' : ℕ → ℕ) → ((u : ℕ) → u < n → f' u ≡ f u) → sum n f' ≡ sum n f
unfolding sum
sum_same zero f f' h = refl
sum_same (suc n) f f' h = omega (arith, h n (omega arith), sum_same n f f' (λ u l. h u (omega arith)))

pub sum-at : (n : ℕ) (f : ℕ → ℕ) (t : ℕ) → t < n → f t ≤ sum n f
unfolding sum
sum-at zero f t l = absurd (omega arith)
sum-at (suc n) f t l = elim (ℕ_discrete t n) [
  | yes e ↦ rw e (omega arith)
  | no e ↦ omega (arith, sum-at n f t (omega arith))
]

-- a sum of which one part changed
pub sum-change : (t n : ℕ) (f f' : ℕ → ℕ) → t < n → ((u : ℕ) → (u ≡ t → ⊥) → f' u ≡ f u) → sum n f' + f t ≡ sum n f + f' t
unfolding sum
sum-change t zero f f' l h = absurd (omega arith)
sum-change t (suc n) f f' l h = elim (ℕ_discrete t n) [
  | yes e ↦ omega (arith, ap f e, ap f' e, sum_same n f f' (λ u m. h u (omega arith)))
  | no e ↦ omega (arith, h n (omega arith), sum-change t n f f' (omega arith) h)
]

-- the first part, and those behind it
pub sum_first : (n : ℕ) (f : ℕ → ℕ) → sum (suc n) f ≡ f 0 + sum n (λ i. f (suc i))
unfolding sum
sum_first zero f = refl
sum_first (suc n) f = omega (arith, sum_first n f)

-- the same parts, from the last to the first
pub sum-reversed : (n : ℕ) (f : ℕ → ℕ) → sum n f ≡ sum n (λ i. f (n - 1 - i))
unfolding sum
sum-reversed zero f = refl
sum-reversed (suc n) f =
    let last : suc n - 1 - 0 ≡ n = omega arith in
    omega (arith, ap f last, sum-reversed n f, sum_first n (λ i. f (suc n - 1 - i)), sum_same n (λ i. f (n - 1 - i)) (λ i. f (suc n - 1 - suc i)) (λ i l. let same : suc n - 1 - suc i ≡ n - 1 - i = omega arith in ap f same))

-- of parts of which none is above m
pub sum-most : (n m : ℕ) (f : ℕ → ℕ) → ((u : ℕ) → u < n → f u ≤ m) → sum n f ≤ n * m
unfolding sum
sum-most zero m f h = omega arith
sum-most (suc n) m f h = omega (arith, suc-mul n m, h n (omega arith), sum-most n m f (λ u l. h u (omega arith)))

-- one part more, for a loop that adds them
pub sum-none : (f : ℕ → ℕ) → sum 0 f ≡ 0
unfolding sum
sum-none f = refl

pub sum-next : (n : ℕ) (f : ℕ → ℕ) → sum (n + 1) f ≡ sum n f + f n
unfolding sum
sum-next n f = rw add-one (omega arith)
