-- A reader gives a page's used entries in turn, from the first to the last, then its end.
use Prim.Native.Nat.{ℕ, zero, suc, ◌+◌}
use mathlib.Core.List.{List}
use mathlib.Core.Path.{◌≡◌}
use native.Mathlib.Omega.{arith}
use borrow.Author.Tests.{le-leb, lt-leb}
use Rattle.model.specs.Page.{count_of}
use Rattle.page_reader.specs.Steps.{step_at, Gives, entries_from, InTurn}

-- the n entries that are left from place i on
gives_left : (n : ℕ) (p : List ℕ) (i : ℕ) → i + n ≡ count_of p + 1 → Gives p i (entries_from n p i)
unfolding step_at entries_from
gives_left zero p i left = rw (lt-leb i (count_of p) (omega arith))
gives_left (suc n) p i left = (rw (le-leb i (count_of p) (omega arith)), gives_left n p (i + 1) (omega arith))

pub in-turn : InTurn
unfolding InTurn
in-turn p = gives_left (count_of p) p 1 (omega arith)
