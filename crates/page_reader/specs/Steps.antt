-- What a reader of a page gives next, and what it gives in turn.
use Rattle.std.specs.Prelude.{ℕ, zero, suc, ◌+◌, cond, ◌≡◌, List, [], ◌∷◌, leb, Option, None, Some}
use Rattle.model.specs.Records.{key_at}
use Rattle.model.specs.Page.{count_of, value_at}
use Rattle.page_reader.specs.declared.Entry.{Entry}

abbrev pub entry_of : List ℕ → ℕ → Entry
entry_of p i = record { place = i; key = key_at p i; value = value_at p i }

-- the entry at a place, or the end behind the used ones
unfoldable pub step_at : List ℕ → ℕ → Option Entry
step_at p i = cond (leb i (count_of p)) (Some (entry_of p i)) None

-- where a reader stands when it was asked at place i
abbrev pub behind : ℕ → Option Entry → ℕ
behind i (Some e) = i + 1
behind i None = i

-- asked at place i, and after each entry at the place behind it, it gives these, then its end
abbrev pub Gives : List ℕ → ℕ → List Entry → Type 0
Gives p i [] = step_at p i ≡ None
Gives p i (e ∷ es) = (step_at p i ≡ Some e) × Gives p (e.place + 1) es

-- the entries at n places, from place i on
unfoldable pub entries_from : ℕ → List ℕ → ℕ → List Entry
entries_from zero p i = []
entries_from (suc n) p i = entry_of p i ∷ entries_from n p (i + 1)

-- Of any page, from place 1 on, where a new reader stands, it gives the used entries in turn (02, job 5).
unfoldable pub InTurn : Type 0
InTurn = (p : List ℕ) → Gives p 1 (entries_from (count_of p) p 1)
