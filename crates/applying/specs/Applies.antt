-- What a line does to both areas, and where its answer stands.
use Rattle.std.specs.Prelude.{ℕ, ◌≤◌, List, ◌≡◌, length}
use Rattle.model.specs.Answers.{Areas}
use Rattle.model.specs.Session.{line_prints, line_leaves}
use Rattle.printer.specs.Puts.{Puts}

-- one line on the areas a: its answer stands whole from `at` on up to `next`, and it leaves a'
pub record Applies (line : List ℕ) (a : Areas) (at : ℕ) (before : List ℕ) (next : ℕ) (later : List ℕ) (a' : Areas) : Type 0 where
  pub fits : next ≤ length before
  pub prints : Puts (line_prints line a) at before next later
  pub leaves : a' ≡ line_leaves line a
