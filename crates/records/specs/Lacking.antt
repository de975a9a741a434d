-- Records that begin at a place of their own.
use Rattle.std.specs.Prelude.{ℕ, ◌+◌, ◌*◌, ◌≤◌, ◌<◌, Bool, false, List, ◌≡◌, eqb}
use Rattle.model.specs.Bytes.{word}

-- has the i-th record from `at` on the key?
abbrev pub has_key : ℕ → ℕ → List ℕ → ℕ → Bool
has_key key at xs i = eqb (word 8 xs (at + 16 * i)) key

-- of n records that begin at `at`, the first r lack the key
pub record Lacking (key at : ℕ) (xs : List ℕ) (n r : ℕ) : Type 0 where
  pub within : r ≤ n
  pub lack : (i : ℕ) → i < r → has_key key at xs i ≡ false
