-- "get answers none with 0 reads for a listed key. Then it searches the buffer page. Of the live batches whose filter passes it reads the key's page: it goes through them youngest first and stops at the first page entry with the key. A found answer holds the value, the reads and where it was: buffer, or batch by number. Reads are the pages read."
use Rattle.std.specs.Prelude.{ℕ, cond, List, [], ◌∷◌, Option, None, Some}
use Rattle.model.specs.Keys.{partition_of, page_of}
use Rattle.model.specs.Page.{value_at, searched, compared, expected}
use Rattle.model.specs.DeleteList.{listed_at}
use Rattle.model.specs.Partition.{listed_of, list_of, buffer_of, passing}
use Rattle.model.specs.Batch.{batch_page}
use Rattle.model.specs.Answers.{Refusal, Answer, found, absent, refused, Tally, tally, page_read, Place, buffer, batch}
use Rattle.model.specs.Refusals.{refuse_if, key_overfull}
use Rattle.model.specs.declared.Geometry.{Geometry}

-- 12, for the key's partition with the bytes p
unfoldable pub get_checks : Geometry → ℕ → List ℕ → Option Refusal
get_checks g k p = refuse_if (key_overfull g k p) 12 None

-- what a search of a page answers, and otherwise
abbrev pub hit_in : List ℕ → Tally → Place → Option ℕ → Answer → Answer
hit_in page c place (Some i) later = found (value_at page i) c place
hit_in page c place None later = later

-- the reads that an answer tells of so many pages: one each
unfoldable pub reads_for : Geometry → ℕ → ℕ
reads_for g pages = pages

-- a cost as an answer tells it
abbrev pub reported : Geometry → Tally → Tally
reported g c = tally (reads_for g c.reads) c.comparisons

-- through these batches, after this cost; 13 counts the failed page too
unfoldable pub read_through : Geometry → ℕ → List ℕ → List ℕ → Tally → Answer
read_through g k f [] c = absent (reported g c)
read_through g k f (n ∷ ns) c =
    let page : List ℕ = batch_page g (partition_of g k) f n (page_of g k) in
    let cost : Tally = page_read (compared k page) c in
    cond (expected g (partition_of g k) n (page_of g k) page)
    (hit_in page (reported g cost) (batch n) (searched k page) (read_through g k f ns cost))
    (refused 13 (reads_for g cost.reads))

-- A listed key costs nothing. The buffer page is searched first, and is no read.
abbrev pub sought_in : Option ℕ → Geometry → ℕ → List ℕ → List ℕ → Answer
sought_in (Some i) g k p f = absent (tally 0 0)
sought_in None g k p f =
    let page : List ℕ = buffer_of g p (page_of g k) in
    let cost : Tally = tally 0 (compared k page) in
    hit_in page cost buffer (searched k page) (read_through g k f (passing g k p) cost)

-- the answer, from the key's partition with the bytes p and from flash
unfoldable pub sought : Geometry → ℕ → List ℕ → List ℕ → Answer
sought g k p f = sought_in (listed_at (listed_of p) k (list_of g p)) g k p f
