-- Document 02: "drop, `(drop 0)` answered `(ok 0)`, takes a partition's oldest live batch off the live number, its entries off the total and the list entries stamped with it; flash and filters stay."
use Rattle.std.specs.Prelude.{ℕ, not, List, eqb, ltb, Option, None}
use Rattle.model.specs.Geometry.{partitions}
use Rattle.model.specs.Partition.{Head, head_of, lowered_head, unlisted_head, totalled_head, with_head, flushes_of, listed_of, live_of, oldest}
use Rattle.model.specs.Batch.{failed_page, batch_entries, delisted, delistings}
use Rattle.model.specs.Answers.{Refusal}
use Rattle.model.specs.Refusals.{refuse_if, refuse_head, head_overfull, total_out}
use Rattle.model.specs.declared.Geometry.{Geometry}

-- the entries of the oldest live batch of partition t
abbrev pub oldest_entries : Geometry → ℕ → List ℕ → List ℕ → ℕ
oldest_entries g t p f = batch_entries g t f (oldest (head_of p))

-- 4, 12, 23, 13, 12, for partition t with the bytes p, and flash: "23, from the state, after 12: no live batch; then 13 as in a flush"
unfoldable pub drop_checks : Geometry → ℕ → List ℕ → List ℕ → Option Refusal
drop_checks g t p f =
    refuse_if (not (ltb t (partitions g))) 4
    (refuse_if (head_overfull g (head_of p)) 12
    (refuse_if (eqb (live_of p) 0) 23
    (refuse_head (failed_page g t f (oldest (head_of p)))
    (refuse_if (total_out g 0 (oldest_entries g t p f) (head_of p)) 12 None))))

-- the head with one live batch less, which had so many entries
unfoldable pub head_dropped : Geometry → ℕ → List ℕ → Head
head_dropped g less p = totalled_head 0 less (unlisted_head (delistings g (live_of p) p) (lowered_head (head_of p)))

-- the partition with that head, and without the list entries stamped with that batch
unfoldable pub dropped : Geometry → ℕ → List ℕ → List ℕ
dropped g less p = with_head (head_dropped g less p) (delisted g (live_of p) (flushes_of p) (listed_of p) p)

-- the partition after the drop
unfoldable pub drop_in : Geometry → ℕ → List ℕ → List ℕ → List ℕ
drop_in g t f p = dropped g (oldest_entries g t p f) p
