-- Bytes written into an area.
use Rattle.std.specs.Prelude.{ℕ, ◌+◌, List, ◌≡◌, length}
use Rattle.std.proofs.lemmas.List.Edits.{sets}

-- the bytes stand in `later` from `at` on, all else is as in `before`, and r is where they end
pub record Puts (bytes : List ℕ) (at : ℕ) (before : List ℕ) (r : ℕ) (later : List ℕ) : Type 0 where
  pub ends : r ≡ at + length bytes
  pub holds : later ≡ sets before at bytes

-- room for one more answer; none is longer
abbrev pub room : ℕ
room = 72
