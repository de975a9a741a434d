-- A number in a text: the figures that the text opens with, the number that they say, and when it is read.
use Rattle.std.proofs.lemmas.Option.{same_Some}
use Prim.Native.Nat.{ℕ, ◌+◌, ◌-◌, ◌*◌, ◌≤◌, ◌<◌}
use mathlib.Core.Bool.{Bool, true, false, cond, ◌&&◌, and-false}
use mathlib.Core.List.{List, [], ◌∷◌}
use mathlib.Core.Logic.{⊎_elim}
use Rattle.std.specs.Prelude.{None, Some}
use mathlib.Core.Path.{◌≡◌, refl, ap}
use native.Mathlib.Numerals.{add-one}
use native.Mathlib.Omega.{arith}
use lib.Dec.{ltb}
use lib.ListN.{length, get_or, drop, drop_of_length-le}
use lib.Seq.{drop-cons}
use borrow.Author.Tests.{ltb-true, lt-ltb, le-ltb}
use Rattle.model.specs.Geometry.{between}
use Rattle.model.specs.Text.{leading, is_plain, number_from, Figure, figure}
use Rattle.model.proofs.Parts.{lt-or-ge}

-- ---- the figures from place i on
module _ (line : List ℕ) (i : ℕ) where
  pub leading-figure : i < length line → between 48 57 (get_or line i 0) ≡ true → leading (drop i line) ≡ get_or line i 0 ∷ leading (drop (i + 1) line)
  unfolding leading
  leading-figure l e = rw (add-one, drop-cons line i 0 l, e)

  pub leading-other : between 48 57 (get_or line i 0) ≡ false → leading (drop i line) ≡ []
  unfolding leading
  leading-other e = ⊎_elim (λ (l : i < length line). rw (drop-cons line i 0 l, e)) (λ (g : length line ≤ i). rw (drop_of_length-le line g)) (lt-or-ge i (length line))

-- ---- the number that figures say behind the number n
pub number-end : (n : ℕ) → number_from n [] ≡ n
unfolding number_from
number-end n = refl

pub number-figure : (n d : ℕ) (ds : List ℕ) → number_from n (d ∷ ds) ≡ number_from (10 * n + (d - 48)) ds
unfolding number_from
number-figure n d ds = refl

pub number-grows : (ds : List ℕ) (n : ℕ) → n ≤ number_from n ds
unfolding number_from
number-grows [] n = omega arith
number-grows (d ∷ ds) n = omega (arith, number-grows ds (10 * n + (d - 48)))

-- ---- the number below a limit that a text opens with
module _ (limit : ℕ) (xs : List ℕ) where
  pub figure-not-plain : is_plain (leading xs) ≡ false → figure limit xs ≡ None
  unfolding figure
  figure-not-plain e = rw e

  pub figure-over : limit ≤ number_from 0 (leading xs) → figure limit xs ≡ None
  unfolding figure
  figure-over l = rw (le-ltb _ _ l, and-false)

  pub figure-is : (n k : ℕ) → is_plain (leading xs) ≡ true → number_from 0 (leading xs) ≡ n → length (leading xs) ≡ k → n < limit → figure limit xs ≡ Some (record { value = n; rest = drop k xs })
  unfolding figure
  figure-is n k p v l h = rw (p, v, lt-ltb _ _ h, l)

  -- what is known of one that was read
  pub record IsFigure (f : Figure) : Type 0 where
    pub plain : is_plain (leading xs) ≡ true
    pub value : number_from 0 (leading xs) ≡ f.value
    pub rest : drop (length (leading xs)) xs ≡ f.rest
    pub below : f.value < limit

  pub figure-read : (f : Figure) → figure limit xs ≡ Some f → IsFigure f
  unfolding figure
  figure-read f e = go (is_plain (leading xs)) (ltb (number_from 0 (leading xs)) limit) refl refl e
    where
      go : (p q : Bool) → is_plain (leading xs) ≡ p → ltb (number_from 0 (leading xs)) limit ≡ q → cond (p && q) (Some (record { value = number_from 0 (leading xs); rest = drop (length (leading xs)) xs })) None ≡ Some f → IsFigure f
      go true true s l e =
          let its = same_Some _ _ e in
          let v : number_from 0 (leading xs) ≡ f.value = ap (λ (g : Figure). g.value) its in
          let b : number_from 0 (leading xs) < limit = ltb-true _ _ l in
          record { plain = s; value = v; rest = ap (λ (g : Figure). g.rest) its; below = omega arith }
      go true false s l e = absurd (let z : ◌≡◌ {A = ℕ} 0 1 = cc in omega arith)
      go false q s l e = absurd (let z : ◌≡◌ {A = ℕ} 0 1 = cc in omega arith)
