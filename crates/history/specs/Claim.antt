-- Demand 3: one claim about the whole list of calls, whatever its length and order; and beside it what document 02 promises from a format on.
use Rattle.std.specs.Prelude.{ℕ, suc, ◌+◌, ◌-◌, ◌*◌, ◌^◌, ◌≤◌, ◌<◌, Bool, true, false, ◌≡◌, List, [], ◌∷◌, length, Option, None, Some}
use Rattle.model.specs.declared.Geometry.{Geometry}
use Rattle.model.specs.Geometry.{partitions, capacity}
use Rattle.model.specs.Keys.{partition_of}
use Rattle.model.specs.Partition.{flushes_of, live_of, buffer_of}
use Rattle.model.specs.Batch.{sum, entries_of, batch_entries}
use Rattle.model.specs.Answers.{Areas, Answer, done, found, absent, shown, refused}
use Rattle.model.specs.Get.{reads_for}
use Rattle.model.specs.Calls.{Call, format, put, get, del, flush, view, count, text, drop, geometry_in, partition_in, key_partition, reply, run}
use Rattle.history.specs.History.{Known, History, events, remember}
use Rattle.history.specs.Reads.{read_by, compared_by, LiveFalling, Follows}

-- Keys and values are numbers of 64 bits. The other arguments may be any numbers.
abbrev pub Fits : Call → Type 0
Fits (format g) = Unit {0}
Fits (put k v) = (k < 2 ^ 64) × (v < 2 ^ 64)
Fits (get k) = k < 2 ^ 64
Fits (del k) = k < 2 ^ 64
Fits (flush t) = Unit {0}
Fits (view t q n) = Unit {0}
Fits (count t) = Unit {0}
Fits (text t room) = Unit {0}
Fits (drop t) = Unit {0}

abbrev pub AllFit : List Call → Type 0
AllFit [] = Unit {0}
AllFit (c ∷ cs) = Fits c × AllFit cs

abbrev pub is_refused : Answer → Bool
is_refused (done n) = false
is_refused (found v c p) = false
is_refused (absent c) = false
is_refused (shown s) = false
is_refused (refused n r) = true

-- what a get says of its key: a value or none, and nothing when it is refused
abbrev pub said : Answer → Option (Option ℕ)
said (done n) = None
said (found v c p) = Some (Some v)
said (absent c) = Some None
said (shown s) = None
said (refused n r) = None

abbrev pub reads_of : Answer → ℕ
reads_of (done n) = 0
reads_of (found v c p) = c.reads
reads_of (absent c) = c.reads
reads_of (shown s) = 0
reads_of (refused n r) = r

abbrev pub comparisons_of : Answer → ℕ
comparisons_of (done n) = 0
comparisons_of (found v c p) = c.comparisons
comparisons_of (absent c) = c.comparisons
comparisons_of (shown s) = 0
comparisons_of (refused n r) = 0

abbrev pub value_of : Option Known → Option ℕ
value_of None = None
value_of (Some w) = Some w.value

-- What a get that is accepted has cost (02, job 8): the reads of the pages that it reads, and the comparisons of its buffer page and of these pages. So at most E for the buffer page, and E for each page read.
pub record Cost (a : Areas) (k : ℕ) : Type 0 where
  pub reads : reads_of (reply a (get k)) ≡ reads_for (geometry_in a) (length (read_by a k))
  pub comparisons : comparisons_of (reply a (get k)) ≡ compared_by a k
  pub most : comparisons_of (reply a (get k)) ≤ capacity (geometry_in a) + capacity (geometry_in a) * length (read_by a k)

-- That is so on any areas, whether calls have made them since a format or not.
unfoldable pub GetsCost : Type 0
GetsCost = (a : Areas) (k : ℕ) → is_refused (reply a (get k)) ≡ false → Cost a k

-- A get of any key is accepted. It gives the history's value for that key, and none exactly when the history has no such key.
-- Document 02: "From a format on ... lookups then never show 0."
-- Its reads are at most the live number of the key's partition, and at most one page of each live batch; its answer follows from the batches read, and a value from the buffer is what the key's buffer page holds.
pub record Right (a : Areas) (h : History) (k : ℕ) : Type 0 where
  pub says : said (reply a (get k)) ≡ Some (value_of (h.keys k))
  pub nonzero : said (reply a (get k)) ≡ Some (Some 0) → ⊥
  pub reads : reads_of (reply a (get k)) ≤ h.live (partition_of h.geometry k)
  pub cost : Cost a k
  pub follows : Follows a k (reply a (get k)) (read_by a k)
  pub batches : LiveFalling (key_partition a k) (suc (flushes_of (key_partition a k))) (read_by a k)

-- And put pages × E is at most Q × puts.
pub record Holds (a : Areas) (h : History) : Type 0 where
  pub each : (k : ℕ) → k < 2 ^ 64 → Right a h k
  pub writes : h.put_pages * capacity h.geometry ≤ h.geometry.pages * h.puts

-- "From a format on": what is claimed of both areas and of the history after every list of calls.
-- The list starts from an accepted format on areas of any content, whatever the history held. Refused calls and later formats are in it.
abbrev pub FromFormat : (Areas → History → Type 0) → Type 0
FromFormat Claimed = (a : Areas) (h : History) (g : Geometry) → is_refused (reply a (format g)) ≡ false
    → (cs : List Call) → AllFit cs
    → Claimed (run a (format g ∷ cs)) (remember h (events a (format g ∷ cs)))

unfoldable pub Demand3 : Type 0
Demand3 = FromFormat Holds

-- The page counts of a partition's buffer pages and of its live batches' pages in flash, together. Batch F − i is live for i below the live number.
unfoldable pub entries_held : Geometry → ℕ → List ℕ → List ℕ → ℕ
entries_held g t p f = entries_of (buffer_of g p) g.pages + sum (live_of p) (λ i. batch_entries g t f (flushes_of p - i))

-- A count of any partition is accepted, and answers that.
-- Document 02: "Head bytes 8 to 11 hold the total, from a format on always equal to the sum of the page counts."
abbrev pub Counts : Areas → History → Type 0
Counts a h = (t : ℕ) → t < partitions h.geometry → reply a (count t) ≡ done (entries_held (geometry_in a) t (partition_in a t) a.flash)

unfoldable pub CountsHeld : Type 0
CountsHeld = FromFormat Counts
