-- What the calls answer, with this paper's numbers and values.
use Rattle.std.specs.Prelude.{ℕ, ◌+◌, List}
use Rattle.model.specs.Bytes.{mid}

-- both areas
pub record Areas : Type 0 where
  pub memory : List ℕ
  pub flash : List ℕ

-- where a found key was
pub data Place : Type 0 where
  buffer : Place
  batch : ℕ → Place

-- a part of one of the areas: where it begins, and its length
pub data Stretch : Type 0 where
  in_memory : ℕ → ℕ → Stretch
  in_flash : ℕ → ℕ → Stretch

abbrev pub bytes_in : Areas → Stretch → List ℕ
bytes_in a (in_memory at n) = mid at n a.memory
bytes_in a (in_flash at n) = mid at n a.flash

-- what a get has cost: the pages read, and the entries compared in pages (02, job 8)
pub record Tally : Type 0 where
  pub reads : ℕ
  pub comparisons : ℕ

abbrev pub tally : ℕ → ℕ → Tally
tally reads comparisons = record { reads = reads; comparisons = comparisons }

-- one page more is read, and so many of its entries are compared
abbrev pub page_read : ℕ → Tally → Tally
page_read n c = tally (c.reads + 1) (c.comparisons + n)

-- a refusal's number, and the pages read before it
pub record Refusal : Type 0 where
  pub number : ℕ
  pub reads : ℕ

-- one that comes before any page is read
abbrev pub unread : ℕ → Refusal
unread n = record { number = n; reads = 0 }

--     done number            format, put, del, flush, drop: the pages written; count: the total; text: its length
--     found value tally place,  absent tally      get
--     shown stretch          view
--     refused number reads
pub data Answer : Type 0 where
  done : ℕ → Answer
  found : ℕ → Tally → Place → Answer
  absent : Tally → Answer
  shown : Stretch → Answer
  refused : ℕ → ℕ → Answer
