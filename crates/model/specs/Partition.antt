-- A partition of memory: its head, its list, its filters, its buffer; and which batches are live.
use Rattle.std.specs.Prelude.{ℕ, zero, suc, ◌+◌, ◌-◌, ◌%◌, min, Bool, cond, ◌&&◌, List, [], ◌∷◌, leb, ltb}
use Rattle.model.specs.Bytes.{word, write, mid}
use Rattle.model.specs.Geometry.{partition_at, stride, list_at, list_size, filter_at, filter_size, buffer_at}
use Rattle.model.specs.Keys.{mixed}
use Rattle.model.specs.Filter.{is_set, passes}
use Rattle.model.specs.declared.Geometry.{Geometry}

-- F, L, the total of the partition's entries, and the number of its live batches
-- Document 02: "Head bytes 8 to 11 hold the total", of "a partition's entries, buffer and live batches together". "Head bytes 12 to 15 now hold the number of live batches, in place of min(K, F)."
pub record Head : Type 0 where
  pub flushes : ℕ
  pub listed : ℕ
  pub total : ℕ
  pub live : ℕ

-- one flush more: "a flush raises it up to K"
abbrev pub flushed_head : Geometry → Head → Head
flushed_head g h = record { flushes = h.flushes + 1; listed = h.listed; total = h.total; live = min g.kept (h.live + 1) }

-- one live batch less
abbrev pub lowered_head : Head → Head
lowered_head h = record { flushes = h.flushes; listed = h.listed; total = h.total; live = h.live - 1 }

-- one listed key more
abbrev pub listed_head : Head → Head
listed_head h = record { flushes = h.flushes; listed = h.listed + 1; total = h.total; live = h.live }

-- n listed keys less
abbrev pub unlisted_head : ℕ → Head → Head
unlisted_head n h = record { flushes = h.flushes; listed = h.listed - n; total = h.total; live = h.live }

-- so many entries more, and so many less
abbrev pub totalled_head : ℕ → ℕ → Head → Head
totalled_head more less h = record { flushes = h.flushes; listed = h.listed; total = h.total + more - less; live = h.live }

abbrev pub head_of : List ℕ → Head
head_of p = record { flushes = word 4 p 0; listed = word 4 p 4; total = word 4 p 8; live = word 4 p 12 }

unfoldable pub with_head : Head → List ℕ → List ℕ
with_head h p = write 4 h.live 12 (write 4 h.total 8 (write 4 h.listed 4 (write 4 h.flushes 0 p)))

-- the total is kept by differences
unfoldable pub totalled : ℕ → ℕ → List ℕ → List ℕ
totalled more less p = with_head (totalled_head more less (head_of p)) p

abbrev pub flushes_of : List ℕ → ℕ
flushes_of p = (head_of p).flushes

abbrev pub listed_of : List ℕ → ℕ
listed_of p = (head_of p).listed

abbrev pub total_of : List ℕ → ℕ
total_of p = (head_of p).total

abbrev pub live_of : List ℕ → ℕ
live_of p = (head_of p).live

abbrev pub partition : Geometry → ℕ → List ℕ → List ℕ
partition g t m = mid (partition_at g t) (stride g) m

abbrev pub list_of : Geometry → List ℕ → List ℕ
list_of g p = mid list_at (list_size g) p

abbrev pub filter_of : Geometry → ℕ → List ℕ → List ℕ
filter_of g j p = mid (filter_at g j) (filter_size g) p

abbrev pub buffer_of : Geometry → List ℕ → ℕ → List ℕ
buffer_of g p q = mid (buffer_at g q) g.page p

-- Batch n (n from 1) lies in slot (n − 1) mod K.
abbrev pub slot : Geometry → ℕ → ℕ
slot g n = (n - 1) % g.kept

-- Live are as many of the latest batches as the live number says.
unfoldable pub is_live : Head → ℕ → Bool
is_live h n = ltb (h.flushes - h.live) n && leb n h.flushes

-- the oldest of them
abbrev pub oldest : Head → ℕ
oldest h = h.flushes - h.live + 1

-- the bits of slot j's filter
unfoldable pub slot_bits : Geometry → List ℕ → ℕ → ℕ → Bool
slot_bits g p j b = is_set (filter_of g j p) b

-- the filter of batch n passes the key
unfoldable pub batch_passes : Geometry → ℕ → List ℕ → ℕ → Bool
batch_passes g k p n = passes g (mixed k) (slot_bits g p (slot g n))

-- of so many batches, from batch n down, those whose filter passes the key
unfoldable pub passing_from : Geometry → ℕ → List ℕ → ℕ → ℕ → List ℕ
passing_from g k p zero n = []
passing_from g k p (suc count) n = cond (batch_passes g k p n) (n ∷ passing_from g k p count (n - 1)) (passing_from g k p count (n - 1))

-- the live batches whose filter passes the key, youngest first
unfoldable pub passing : Geometry → ℕ → List ℕ → List ℕ
passing g k p = passing_from g k p (live_of p) (flushes_of p)
