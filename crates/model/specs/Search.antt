-- The first number that passes a test: how a page, a list and a filter are searched.
use Rattle.std.specs.Prelude.{ℕ, zero, suc, ◌+◌, Bool, cond, Option, None, Some}
pub use Rattle.std.specs.Prelude.{is_some}

-- of the n numbers from i on
unfoldable pub first_from : ℕ → ℕ → (ℕ → Bool) → Option ℕ
first_from zero i test = None
first_from (suc n) i test = cond (test i) (Some i) (first_from n (i + 1) test)

-- is there one?
abbrev pub any_from : ℕ → ℕ → (ℕ → Bool) → Bool
any_from n i test = is_some (first_from n i test)
