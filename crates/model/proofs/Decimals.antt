-- A number's decimal figures: one, or those of n / 10 and one more.
use mathlib.Core.Path.{◌≡◌, sym, ◌∙◌, ap}
use mathlib.Core.Logic.{⊎_elim}
use mathlib.Core.List.{List, [], ◌∷◌, ◌++◌}
use Prim.Native.Nat.{ℕ, zero, suc, ◌+◌, ◌/◌, ◌%◌, ◌^◌, ◌≤◌, ◌<◌}
use native.Mathlib.Nat.{div-one, div-lt_iff_lt-mul, le-div_iff_mul-le, div-div-eq-div-mul, pow-zero, pow-suc, pow-succ', one-le-pow}
use native.Mathlib.Omega.{arith}
use lib.ListN.{length, length-append}
use borrow.Author.Tests.{lt-ltb, le-ltb}
use Rattle.model.proofs.Parts.{lt-or-ge}
use Rattle.model.specs.Text.{figures, decimal}

pub figures-one : (most n : ℕ) → n < 10 → figures (suc most) n ≡ (48 + n) ∷ []
unfolding figures
figures-one most n l = rw (lt-ltb _ _ l)

pub figures-more : (most n : ℕ) → 10 ≤ n → figures (suc most) n ≡ figures most (n / 10) ++ ((48 + n % 10) ∷ [])
unfolding figures
figures-more most n g = rw (le-ltb _ _ g)

pub length-figures : (most n : ℕ) → length (figures most n) ≤ most
length-figures zero n = unfold figures in omega arith
length-figures (suc most) n =
    ⊎_elim (λ (l : n < 10). rw (figures-one most n l) (omega arith))
    (λ (g : 10 ≤ n). rw (figures-more most n g, length-append) (omega (arith, length-figures most (n / 10))))
    (lt-or-ge n 10)

tenth : (m n : ℕ) → n < 10 ^ suc m → n / 10 < 10 ^ m
tenth m n l = (div-lt_iff_lt-mul {k = 10} (omega arith)).1 (rw (pow-suc 10 m) at l)

-- what one figure has, and more figures have if those of n / 10 have it
pub by-figures : (P : ℕ → List ℕ → Type 0) → ((n : ℕ) → n < 10 → P n ((48 + n) ∷ [])) → ((n : ℕ) (ds : List ℕ) → 10 ≤ n → P (n / 10) ds → P n (ds ++ ((48 + n % 10) ∷ []))) → (m n : ℕ) → n < 10 ^ suc m → P n (figures (suc m) n)
by-figures P one more zero n l = rw (figures-one 0 n l) (one n l)
by-figures P one more (suc m) n l =
    ⊎_elim (λ (h : n < 10). rw (figures-one (suc m) n h) (one n h))
    (λ (g : 10 ≤ n). rw (figures-more (suc m) n g) (more n (figures (suc m) (n / 10)) g (by-figures P one more m (n / 10) (tenth (suc m) n l))))
    (lt-or-ge n 10)

-- more places than enough change nothing
enough : (m n : ℕ) → n < 10 ^ suc m → figures (suc m) n ≡ figures (suc (suc m)) n
enough zero n l = figures-one 0 n l ∙ sym (figures-one 1 n l)
enough (suc m) n l =
    ⊎_elim (λ (h : n < 10). figures-one (suc m) n h ∙ sym (figures-one (suc (suc m)) n h))
    (λ (g : 10 ≤ n). rw (figures-more (suc m) n g, figures-more (suc (suc m)) n g, enough m (n / 10) (tenth (suc m) n l)))
    (lt-or-ge n 10)

pub decimal-more : (n : ℕ) → n < 10 ^ 20 → 10 ≤ n → decimal n ≡ decimal (n / 10) ++ ((48 + n % 10) ∷ [])
decimal-more n l g = figures-more 19 n g ∙ ap (λ (ds : List ℕ). ds ++ ((48 + n % 10) ∷ [])) (enough 18 (n / 10) (omega arith))

pub length-decimal : (n : ℕ) → length (decimal n) ≤ 20
length-decimal n = length-figures 20 n

pub length-one : (n : ℕ) → n < 10 → length (decimal n) ≡ 1
length-one n l = ap length (figures-one 19 n l)

pub length_more : (n : ℕ) → 10 ≤ n → n < 10 ^ 20 → length (decimal n) ≡ length (decimal (n / 10)) + 1
length_more n g l = simp length-append at (ap length (decimal-more n l g))

-- and k behind those of n / 10 ^ k
pub length-by : (k n : ℕ) → 10 ^ k ≤ n → n < 10 ^ 20 → length (decimal n) ≡ length (decimal (n / 10 ^ k)) + k
length-by zero n g l = rw (pow-zero, div-one) (omega arith)
length-by (suc k) n g l =
    let less : 10 ^ k ≤ n / 10 = (le-div_iff_mul-le {k = 10} (omega arith)).1 (rw (pow-suc 10 k) at g) in
    let same : n / 10 / 10 ^ k ≡ n / 10 ^ suc k = rw (pow-succ', div-div-eq-div-mul) in
    omega (arith, length_more n (omega (arith, less, one-le-pow k 10 (omega arith))) l, length-by k (n / 10) less (omega arith), ap (λ (m : ℕ). length (decimal m)) same)
