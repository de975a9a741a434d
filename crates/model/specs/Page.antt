-- "A page: count 2, page number 2, partition 2, zero 2, flush number 4, zero 4, then E entries, used ones first, the rest zero."
-- An entry has 8 key and 8 value bytes. Record 0 of a page is its head, so its used entries are the records 1 to count.
use Rattle.std.specs.Prelude.{ℕ, ◌+◌, ◌-◌, ◌*◌, Bool, cond, ◌&&◌, List, eqb, leb, length, Option, None, Some}
use Rattle.model.specs.Bytes.{word, write, zeros}
use Rattle.model.specs.Search.{is_some}
use Rattle.model.specs.Records.{first_record, closed_up}
use Rattle.model.specs.Geometry.{capacity}
use Rattle.model.specs.declared.Geometry.{Geometry}

abbrev pub count_of : List ℕ → ℕ
count_of p = word 2 p 0

abbrev pub value_at : List ℕ → ℕ → ℕ
value_at p i = word 8 p (16 * i + 8)

-- the first used entry with the key
abbrev pub searched : ℕ → List ℕ → Option ℕ
searched k p = first_record k (count_of p) 1 p

-- The entries that this compares: up to the one with the key, or all used ones (02, job 8). A page's places are counted from 0, so the entry that is record i is at place i − 1.
abbrev pub compared_at : Option ℕ → List ℕ → ℕ
compared_at (Some i) p = i
compared_at None p = count_of p

unfoldable pub compared : ℕ → List ℕ → ℕ
compared k p = compared_at (searched k p) p

unfoldable pub appended : ℕ → ℕ → List ℕ → List ℕ
appended k v p = write 2 (count_of p + 1) 0 (write 8 v (16 * (count_of p + 1) + 8) (write 8 k (16 * (count_of p + 1)) p))

unfoldable pub replaced : ℕ → ℕ → List ℕ → List ℕ
replaced i v p = write 8 v (16 * i + 8) p

unfoldable pub removed : ℕ → List ℕ → List ℕ
removed i p = write 2 (count_of p - 1) 0 (closed_up (eqb i) (count_of p) 1 p)

-- A key in its page gets the new value in its first place there; otherwise it is appended.
abbrev pub stored_at : Option ℕ → ℕ → ℕ → List ℕ → List ℕ
stored_at (Some i) k v p = replaced i v p
stored_at None k v p = appended k v p

unfoldable pub stored : ℕ → ℕ → List ℕ → List ℕ
stored k v p = stored_at (searched k p) k v p

-- the entries that this adds: 1 for an append
unfoldable pub added : ℕ → List ℕ → ℕ
added k p = cond (is_some (searched k p)) 0 1

-- The key's first entry leaves the page, later used ones moving down.
abbrev pub removed_at : Option ℕ → List ℕ → List ℕ
removed_at (Some i) p = removed i p
removed_at None p = p

unfoldable pub without : ℕ → List ℕ → List ℕ
without k p = removed_at (searched k p) p

-- the entries that this takes off: 1 for a key that has one
unfoldable pub taken : ℕ → List ℕ → ℕ
taken k p = cond (is_some (searched k p)) 1 0

-- zero but for the page number and the partition
unfoldable pub emptied : ℕ → ℕ → List ℕ → List ℕ
emptied q t p = write 2 t 4 (write 2 q 2 (zeros (length p)))

-- the page with a flush number
unfoldable pub numbered : ℕ → List ℕ → List ℕ
numbered n p = write 4 n 8 p

-- the head of page q of batch n of partition t, as refusal 13 examines it
unfoldable pub expected : Geometry → ℕ → ℕ → ℕ → List ℕ → Bool
expected g t n q p =
    leb (count_of p) (capacity g)
    && eqb (word 2 p 2) q
    && eqb (word 2 p 4) t
    && eqb (word 2 p 6) 0
    && eqb (word 4 p 8) n
