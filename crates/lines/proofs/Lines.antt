-- A text cut into lines: a line and the byte 10 that ends it, and what follows.
use Prim.Native.Nat.{ℕ, suc, ◌+◌, ◌-◌, ◌≤◌, ◌<◌}
use mathlib.Core.List.{List, [], ◌∷◌, ◌++◌, append_assoc}
use mathlib.Core.Path.{◌≡◌, refl, sym, ◌∙◌}
use native.Mathlib.Omega.{arith}
use lib.ListN.{length, drop, get_or, length-drop}
use lib.Seq.{get_or-drop}
use Rattle.std.specs.List.{AllWithin, HoldsAt}
use borrow.Author.Tests.{ne_eqb}
use Rattle.model.specs.Session.{lines_of}
use Rattle.lines.specs.Lines.{Unended, Whole, LineEnd}

-- what holds of a text from its first byte on holds of the text behind that
pub unended-rest : (x : ℕ) (xs : List ℕ) → Unended 0 (x ∷ xs) → Unended 0 xs
unended-rest x xs h i l k = h (suc i) (omega arith) (omega arith)

-- a line, and what follows it
pub lines-line : (line more : List ℕ) → Unended 0 line → lines_of (line ++ 10 ∷ more) ≡ line ∷ lines_of more
unfolding lines_of
lines-line [] more h = refl
lines-line (x ∷ line) more h = rw (ne_eqb x 10 (h 0 (omega arith) (omega arith)), lines-line line more (unended-rest x line h))

-- a last line, which the end of the text ends
pub lines-last : (line : List ℕ) → 0 < length line → Unended 0 line → lines_of line ≡ line ∷ []
unfolding lines_of
lines-last [] l h = absurd (omega arith)
lines-last (x ∷ []) l h = rw (ne_eqb x 10 (h 0 (omega arith) (omega arith)))
lines-last (x ∷ y ∷ ys) l h = rw (ne_eqb x 10 (h 0 (omega arith) (omega arith)), lines-last (y ∷ ys) (omega arith) (unended-rest x (y ∷ ys) h))

-- ---- whole lines
pub whole-none : Whole []
unfolding lines_of
whole-none more = refl

pub whole-line : (line : List ℕ) → Unended 0 line → Whole (line ++ 10 ∷ [])
unfolding lines_of
whole-line line h more = rw (append_assoc line, lines-line line more h, lines-line line [] h)

pub whole-more : (xs ys : List ℕ) → Whole xs → Whole ys → Whole (xs ++ ys)
whole-more xs ys v w more = rw (append_assoc xs ys more, v (ys ++ more), w more, v ys, append_assoc)

-- ---- where a line ends, in a text of which what stands from `from` on was searched for a byte 10
abbrev pub NoneIn : List ℕ → ℕ → Type 0
NoneIn xs n = AllWithin (λ x. x ≡ 10 → ⊥) xs 0 n

none-before : (xs : List ℕ) (from n : ℕ) → NoneIn (drop from xs) n → (i : ℕ) → from ≤ i → i < from + n → get_or xs i 0 ≡ 10 → ⊥
none-before xs from n none i g l e =
    let k : from + (i - from) ≡ i = omega arith in
    none (i - from) 0 (omega arith) (omega arith) (get_or-drop from xs (i - from) 0 ∙ rw k e)

pub end-found : (xs : List ℕ) (from n : ℕ) → from ≤ length xs → (n < length (drop from xs)) × HoldsAt (λ x. x ≡ 10) (drop from xs) n × NoneIn (drop from xs) n → LineEnd xs from (from + n)
end-found xs from n h f =
    record {
      begins = omega arith;
      within = omega (arith, f.0, length-drop from xs);
      ends = λ l. sym (get_or-drop from xs n 0) ∙ f.1 0;
      inside = none-before xs from n f.2;
    }

pub end-last : (xs : List ℕ) (from : ℕ) → from ≤ length xs → NoneIn (drop from xs) (length (drop from xs)) → LineEnd xs from (length xs)
end-last xs from h none =
    record {
      begins = h;
      within = omega arith;
      ends = λ l. absurd (omega arith);
      inside = λ i g l. none-before xs from _ none i g (omega (arith, length-drop from xs));
    }
