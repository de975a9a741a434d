-- Texts cut at the ends of lines.
use Rattle.std.specs.Prelude.{ℕ, ◌≤◌, ◌<◌, cond, List, [], ◌∷◌, ◌++◌, ◌≡◌, eqb, length, get_or}
use Rattle.model.specs.Answers.{Areas}
use Rattle.model.specs.Session.{lines_of, lines_print, lines_leave}

-- the byte that ends a line stands nowhere from `at` on
abbrev pub Unended : ℕ → List ℕ → Type 0
Unended at xs = (i : ℕ) → at ≤ i → i < length xs → get_or xs i 0 ≡ 10 → ⊥

-- the line that begins at `from` ends at `end`: there stands the next byte 10, or the text ends
pub record LineEnd (xs : List ℕ) (from end : ℕ) : Type 0 where
  pub begins : from ≤ end
  pub within : end ≤ length xs
  pub ends : end < length xs → get_or xs end 0 ≡ 10
  pub inside : (i : ℕ) → from ≤ i → i < end → get_or xs i 0 ≡ 10 → ⊥

-- the lines of a text that a byte 10 ends: what follows the last such byte is left out
abbrev pub begun_by : ℕ → List (List ℕ) → List (List ℕ)
begun_by x [] = []
begun_by x (l ∷ ls) = (x ∷ l) ∷ ls

unfoldable pub ended_lines : List ℕ → List (List ℕ)
ended_lines [] = []
ended_lines (x ∷ xs) = cond (eqb x 10) ([] ∷ ended_lines xs) (begun_by x (ended_lines xs))

-- no form is as long
abbrev pub longest : ℕ
longest = 256

-- whole lines: whatever follows begins a new one
abbrev pub Whole : List ℕ → Type 0
Whole xs = (more : List ℕ) → lines_of (xs ++ more) ≡ lines_of xs ++ lines_of more

-- ys does what xs does at the end of any text, whatever follows
pub record Same (xs ys : List ℕ) : Type 0 where
  pub prints : (more : List ℕ) (a : Areas) → lines_print (lines_of (ys ++ more)) a ≡ lines_print (lines_of (xs ++ more)) a
  pub leaves : (more : List ℕ) (a : Areas) → lines_leave (lines_of (ys ++ more)) a ≡ lines_leave (lines_of (xs ++ more)) a
