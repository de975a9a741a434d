-- Bytes written into an area if they fit.
use Rattle.std.specs.Prelude.{ℕ, ◌+◌, ◌≤◌, List, ◌≡◌, length}
use Rattle.std.proofs.lemmas.List.Edits.{sets}

-- the bytes stand in `later` from `at` on where it is long enough, all else is as in `before`, and r is where they end, or would
pub record PutsIfFits (bytes : List ℕ) (at : ℕ) (before : List ℕ) (r : ℕ) (later : List ℕ) : Type 0 where
  pub ends : r ≡ at + length bytes
  pub stays : length later ≡ length before
  pub holds : r ≤ length before → later ≡ sets before at bytes
