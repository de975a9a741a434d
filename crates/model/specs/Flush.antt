-- "flush of partition t: batch F + 1 is written whole, its pages being the buffer pages with that flush number; no other flash byte changes. The slot's filter is made new. List entries stamped F + 1 − K are removed. The buffer is emptied as by format and F rises by 1."
-- Document 02: "A flush that drops a batch first reads the heads of that batch's Q pages in order." "However pages now get to flash, write each from the buffer into its slot directly."
use Rattle.std.specs.Prelude.{ℕ, zero, suc, ◌+◌, Bool, not, ◌||◌, List, eqb, ltb, Option, None}
use Rattle.model.specs.Bytes.{within}
use Rattle.model.specs.Search.{any_from}
use Rattle.model.specs.Geometry.{partitions, filter_at, filter_size, slot_page_at}
use Rattle.model.specs.Page.{count_of, numbered}
use Rattle.model.specs.Filter.{filter_for}
use Rattle.model.specs.Partition.{Head, head_of, flushed_head, unlisted_head, with_head, totalled, flushes_of, listed_of, buffer_of, slot}
use Rattle.model.specs.Batch.{failed_head, leaving, delisted, delistings}
use Rattle.model.specs.Answers.{Refusal}
use Rattle.model.specs.Refusals.{refuse_if, refuse_head, head_overfull, some_page_overfull, total_out, last_flush}
use Rattle.model.specs.Format.{emptied_pages}
use Rattle.model.specs.declared.Geometry.{Geometry}

-- some buffer page has an entry
abbrev pub in_use : Geometry → List ℕ → Bool
in_use g p = any_from g.pages 0 (λ q. not (eqb (count_of (buffer_of g p q)) 0))

-- 16, 13, 12: of a flush that is due, in a call that adds so many entries. The heads are read before anything is written.
unfoldable pub due_checks : Geometry → ℕ → ℕ → List ℕ → List ℕ → Option Refusal
due_checks g t more p f =
    refuse_if (eqb (flushes_of p) last_flush) 16
    (refuse_head (failed_head g t p f)
    (refuse_if (total_out g more (leaving g t p f) (head_of p)) 12 None))

-- 4, 12, 15, 16, 13, 12, for partition t with the bytes p, and flash
unfoldable pub flush_checks : Geometry → ℕ → List ℕ → List ℕ → Option Refusal
flush_checks g t p f =
    refuse_if (not (ltb t (partitions g))) 4
    (refuse_if (head_overfull g (head_of p)) 12
    (refuse_if (some_page_overfull g p) 12
    (refuse_if (not (in_use g p)) 15 (due_checks g t 0 p f))))

-- the filter made new
unfoldable pub filtered : Geometry → List ℕ → List ℕ
filtered g p = within (filter_at g (slot g (flushes_of p + 1))) (filter_size g) (λ _. filter_for g (buffer_of g p)) p

-- the head after the flush: the entries that expire are listed no more
unfoldable pub head_after : Geometry → List ℕ → Head
head_after g p = unlisted_head (delistings g g.kept p) (flushed_head g (head_of p))

-- the partition after the flush
unfoldable pub flushed : Geometry → ℕ → List ℕ → List ℕ
flushed g t p = with_head (head_after g p) (emptied_pages g t g.pages (delisted g g.kept (flushes_of p) (listed_of p) (filtered g p)))

-- and with the total that the call ends with
unfoldable pub flush_in : Geometry → ℕ → List ℕ → List ℕ → List ℕ
flush_in g t f p = totalled 0 (leaving g t p f) (flushed g t p)

-- 4, 16, for page q of partition t with the bytes p: a page is written "on any areas, partition and page that pass 2, 11, 3, 4 and 16"
unfoldable pub page_checks : Geometry → ℕ → ℕ → List ℕ → Option Refusal
page_checks g t q p =
    refuse_if (not (ltb t (partitions g)) || not (ltb q g.pages)) 4
    (refuse_if (eqb (flushes_of p) last_flush) 16 None)

-- flash with page q of the batch written: "the slot's page then holds the buffer page's bytes with the new flush number", whatever it counts, and every other byte stays
unfoldable pub with_batch_page : Geometry → ℕ → List ℕ → ℕ → List ℕ → List ℕ
with_batch_page g t p q f = within (slot_page_at g t (slot g (flushes_of p + 1)) q) g.page (λ _. numbered (flushes_of p + 1) (buffer_of g p q)) f

-- with its first q pages written
unfoldable pub with_batch : Geometry → ℕ → List ℕ → ℕ → List ℕ → List ℕ
with_batch g t p zero f = f
with_batch g t p (suc q) f = with_batch_page g t p q (with_batch g t p q f)
