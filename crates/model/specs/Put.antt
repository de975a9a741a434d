-- "put: a key in its buffer page gets the new value in its first place there; otherwise it is appended. For an append to a page with E entries the partition is flushed first; that flush counts as before the put. The first list entry of this key is removed. It reports pages written, 0 or Q."
-- Document 02: "The store never puts sound at position 0 ... put therefore refuses value 0."
use Rattle.std.specs.Prelude.{ℕ, Bool, cond, not, ◌&&◌, List, eqb, Option, None, Some}
use Rattle.model.specs.Bytes.{within}
use Rattle.model.specs.Search.{is_some}
use Rattle.model.specs.Geometry.{capacity, list_at, list_size, buffer_at}
use Rattle.model.specs.Keys.{partition_of, page_of}
use Rattle.model.specs.Page.{count_of, searched, stored, added}
use Rattle.model.specs.DeleteList.{listed_at, struck}
use Rattle.model.specs.Partition.{head_of, unlisted_head, with_head, totalled, listed_of, list_of, buffer_of}
use Rattle.model.specs.Batch.{leaving}
use Rattle.model.specs.Answers.{Refusal}
use Rattle.model.specs.Refusals.{refuse_if, key_overfull, some_page_overfull, total_out}
use Rattle.model.specs.Flush.{due_checks, flushed}
use Rattle.model.specs.declared.Geometry.{Geometry}

-- 21: the value is no position
unfoldable pub no_position : ℕ → Bool
no_position v = eqb v 0

-- an append to a page with E entries
unfoldable pub due : Geometry → ℕ → List ℕ → Bool
due g k p = not (is_some (searched k (buffer_of g p (page_of g k)))) && eqb (count_of (buffer_of g p (page_of g k))) (capacity g)

-- the entries that a put adds to the total, and those that its flush takes off
unfoldable pub appends : Geometry → ℕ → List ℕ → ℕ
appends g k p = added k (buffer_of g p (page_of g k))

unfoldable pub put_leaving : Geometry → ℕ → List ℕ → List ℕ → ℕ
put_leaving g k p f = cond (due g k p) (leaving g (partition_of g k) p f) 0

-- 12, then 12, 16, 13, 12 where a flush is due, and otherwise 12: what a put of this key checks, whatever its value, for the key's partition with the bytes p, and flash
unfoldable pub room_checks : Geometry → ℕ → List ℕ → List ℕ → Option Refusal
room_checks g k p f =
    refuse_if (key_overfull g k p) 12
    (cond (due g k p)
    (refuse_if (some_page_overfull g p) 12 (due_checks g (partition_of g k) 1 p f))
    (refuse_if (total_out g (appends g k p) 0 (head_of p)) 12 None))

-- 21, and then these
unfoldable pub put_checks : Geometry → ℕ → ℕ → List ℕ → List ℕ → Option Refusal
put_checks g k v p f = refuse_if (no_position v) 21 (room_checks g k p f)

-- the list without entry i, or as it is
abbrev pub unlisted_at : Option ℕ → Geometry → List ℕ → List ℕ
unlisted_at (Some i) g p = with_head (unlisted_head 1 (head_of p)) (within list_at (list_size g) (struck i (listed_of p)) p)
unlisted_at None g p = p

unfoldable pub unlisted : Geometry → ℕ → List ℕ → List ℕ
unlisted g k p = unlisted_at (listed_at (listed_of p) k (list_of g p)) g p

unfoldable pub buffered : Geometry → ℕ → ℕ → List ℕ → List ℕ
buffered g k v p = within (buffer_at g (page_of g k)) g.page (stored k v) p

-- the partition after the put
unfoldable pub put_in : Geometry → ℕ → ℕ → List ℕ → List ℕ → List ℕ
put_in g k v f p = totalled (appends g k p) (put_leaving g k p f) (unlisted g k (buffered g k v (cond (due g k p) (flushed g (partition_of g k) p) p)))
