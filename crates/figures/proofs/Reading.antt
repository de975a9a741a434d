-- The number that a line says from a place on, figure by figure.
use mathlib.Core.Path.{◌≡◌, refl, sym, ◌∙◌, ap}
use mathlib.Core.Logic.{⊎_elim}
use mathlib.Core.Bool.{Bool, true, false, not}
use mathlib.Core.List.{List, [], ◌∷◌}
use Rattle.std.specs.Prelude.{Option, None, Some}
use Prim.Native.Nat.{ℕ, ◌+◌, ◌-◌, ◌*◌, ◌≤◌, ◌<◌}
use native.Mathlib.Omega.{arith}
use lib.ListN.{length, get_or, drop, get_or-eq_default}
use lib.Seq.{drop-drop}
use borrow.Author.Tests.{leb-true, ne_eqb}
use Rattle.model.specs.Text.{past, leading, is_plain, number_from, Figure, figure}
use Rattle.model.specs.Session.{then}
use Rattle.model.proofs.Parts.{lt-or-ge}
use Rattle.model.proofs.Tests.{both_true}
use Rattle.model.proofs.Numbers.{leading-figure, leading-other, number-end, number-figure, number-grows, figure-over, figure-is, figure-read}
use Rattle.figures.specs.Places.{figure_at}

module _ (line : List ℕ) (i : ℕ) where
  pub figure-here : figure_at line i ≡ true → (i < length line) × (48 ≤ get_or line i 0) × (get_or line i 0 ≤ 57)
  unfolding figure_at
  figure-here e =
      let w = both_true _ _ e in
      let low : 48 ≤ get_or line i 0 = leb-true _ _ w.0 in
      (⊎_elim (λ (l : i < length line). l) (λ (g : length line ≤ i). omega (arith, get_or-eq_default line 0 g)) (lt-or-ge i (length line)), low, leb-true _ _ w.1)

  leading-more : figure_at line i ≡ true → leading (drop i line) ≡ get_or line i 0 ∷ leading (drop (i + 1) line)
  unfolding figure_at
  leading-more e = leading-figure line i (figure-here e).0 e

  pub leading-none : figure_at line i ≡ false → leading (drop i line) ≡ []
  unfolding figure_at
  leading-none e = leading-other line i e

  -- a first figure that is not 0; and 0, which stands alone
  pub plain_more : figure_at line i ≡ true → (get_or line i 0 ≡ 48 → ⊥) → is_plain (leading (drop i line)) ≡ true
  plain_more e n = rw (leading-more e) (go (leading (drop (i + 1) line)))
    where
      go : (ds : List ℕ) → is_plain (get_or line i 0 ∷ ds) ≡ true
      go [] = refl
      go (d ∷ ds) = rw (ne_eqb _ _ n)

pub plain-zero : (line : List ℕ) (i : ℕ) → get_or line i 0 ≡ 48 → (b : Bool) → figure_at line (i + 1) ≡ b → is_plain (leading (drop i line)) ≡ not b
unfolding figure_at
plain-zero line i z true e = rw (leading-more line i (rw z), leading-more line (i + 1) e, z)
plain-zero line i z false e = rw (leading-more line i (rw z), leading-none line (i + 1) e)

-- ---- a loop over the figures from `at` on: at the place i it has read n
abbrev pub Reads : List ℕ → ℕ → ℕ → ℕ → Type 0
Reads line at n i =
    (number_from n (leading (drop i line)) ≡ number_from 0 (leading (drop at line)))
    × (i + length (leading (drop i line)) ≡ at + length (leading (drop at line)))

module _ (line : List ℕ) (at n i most : ℕ) (inv : Reads line at n i) where
  pub reads_more : figure_at line i ≡ true → Reads line at (10 * n + (get_or line i 0 - 48)) (i + 1)
  reads_more e = (
    sym (ap (number_from n) (leading-more line i e) ∙ number-figure n _ _) ∙ inv.0,
    omega (arith, ap length (leading-more line i e)),
  )

  pub reads_over : figure_at line i ≡ true → most < 10 * n + (get_or line i 0 - 48) → figure (most + 1) (drop at line) ≡ None
  reads_over e l = figure-over (most + 1) (drop at line) (omega (arith, number-grows (leading (drop (i + 1) line)) (10 * n + (get_or line i 0 - 48)), (reads_more e).0))

  pub reads_all : is_plain (leading (drop at line)) ≡ true → figure_at line i ≡ false → n ≤ most → figure (most + 1) (drop at line) ≡ Some (record { value = n; rest = drop i line })
  reads_all p e l =
      let v : number_from 0 (leading (drop at line)) ≡ n = sym inv.0 ∙ ap (number_from n) (leading-none line i e) ∙ number-end n in
      let k : i ≡ at + length (leading (drop at line)) = omega (arith, ap length (leading-none line i e)) in
      figure-is (most + 1) (drop at line) n (length (leading (drop at line))) p v refl (omega arith) ∙ rw (k, drop-drop)

-- a number that was read is below its limit
pub read_below : (limit : ℕ) (t xs : List ℕ) (f : Figure) → then (past t xs) (figure limit) ≡ Some f → f.value < limit
read_below limit t xs f e = go (past t xs) e
  where
    go : (o : Option (List ℕ)) → then o (figure limit) ≡ Some f → f.value < limit
    go None e = let z : ◌≡◌ {A = ℕ} 0 1 = cc in omega arith
    go (Some ys) e = (figure-read limit ys f e).below
