-- Document 02: "For one partition, write `(put key value)` for each key that a get finds, with the value found. The order is oldest batch first, buffer last, and within a batch by page and place of the entry that answers."
-- A line stands exactly where a get of its key would answer with that very entry.
use Rattle.std.specs.Prelude.{ℕ, zero, suc, ◌+◌, Bool, true, false, cond, not, ◌&&◌, List, [], ◌++◌, eqb, ltb, length, Option, None, Some}
use Rattle.model.specs.Search.{is_some, any_from}
use Rattle.model.specs.Geometry.{partitions}
use Rattle.model.specs.Keys.{partition_of, page_of}
use Rattle.model.specs.Records.{key_at}
use Rattle.model.specs.Page.{count_of, value_at, searched}
use Rattle.model.specs.Partition.{Head, head_of, live_of, buffer_of, oldest}
use Rattle.model.specs.Batch.{batch_page, failed_page}
use Rattle.model.specs.Answers.{Refusal, Place, buffer, batch, Answer, done, found, absent, shown, refused}
use Rattle.model.specs.Refusals.{refuse_if, head_overfull, some_page_overfull}
use Rattle.model.specs.Get.{sought}
use Rattle.model.specs.Text.{text, decimal}
use Rattle.model.specs.declared.Geometry.{Geometry}

-- a line, with its byte 10
unfoldable pub put_text : ℕ → ℕ → List ℕ
put_text k v = text "(put " ++ decimal k ++ text " " ++ decimal v ++ text ")\n"

-- f 0, …, f (n − 1), one behind another
unfoldable pub joined : ℕ → (ℕ → List ℕ) → List ℕ
joined zero f = []
joined (suc n) f = joined n f ++ f n

-- the live batches, oldest first
abbrev pub live_batch : Head → ℕ → ℕ
live_batch h i = oldest h + i

-- the places that hold entries: the live batches, oldest first, then the buffer
unfoldable pub source : Head → ℕ → Place
source h i = cond (ltb i h.live) (batch (live_batch h i)) buffer

-- page q there
abbrev pub source_page : Geometry → ℕ → List ℕ → List ℕ → Place → ℕ → List ℕ
source_page g t p f buffer q = buffer_of g p q
source_page g t p f (batch n) q = batch_page g t f n q

abbrev pub is_place : Place → Place → Bool
is_place buffer buffer = true
is_place buffer (batch n) = false
is_place (batch n) buffer = false
is_place (batch n) (batch m) = eqb n m

-- a get found its key there
abbrev pub is_found_in : Place → Answer → Bool
is_found_in at (found v c place) = is_place at place
is_found_in at (absent c) = false
is_found_in at (done n) = false
is_found_in at (shown s) = false
is_found_in at (refused n r) = false

-- page q there is the one that a get of k answers from
unfoldable pub answers_in : Geometry → ℕ → List ℕ → List ℕ → Place → ℕ → ℕ → Bool
answers_in g t p f at q k = eqb (partition_of g k) t && eqb (page_of g k) q && is_found_in at (sought g k p f)

abbrev pub is_at : ℕ → Option ℕ → Bool
is_at i None = false
is_at i (Some j) = eqb i j

-- and entry i of the page the one that it answers with: of a key's entries in a page the first
unfoldable pub answers_with : Geometry → ℕ → List ℕ → List ℕ → Place → ℕ → ℕ → Bool
answers_with g t p f at q i =
    let page : List ℕ = source_page g t p f at q in
    answers_in g t p f at q (key_at page i) && is_at i (searched (key_at page i) page)

-- the line of entry i, or none
unfoldable pub entry_text : Geometry → ℕ → List ℕ → List ℕ → Place → ℕ → ℕ → List ℕ
entry_text g t p f at q i =
    let page : List ℕ = source_page g t p f at q in
    cond (answers_with g t p f at q i) (put_text (key_at page i) (value_at page i)) []

-- the lines of a page's used entries, of a source's pages, and of all sources: the text of partition t with the bytes p
unfoldable pub page_text : Geometry → ℕ → List ℕ → List ℕ → Place → ℕ → List ℕ
page_text g t p f at q = joined (count_of (source_page g t p f at q)) (λ i. entry_text g t p f at q (i + 1))

unfoldable pub source_text : Geometry → ℕ → List ℕ → List ℕ → Place → List ℕ
source_text g t p f at = joined g.pages (page_text g t p f at)

unfoldable pub partition_text : Geometry → ℕ → List ℕ → List ℕ → List ℕ
partition_text g t p f = joined (live_of p + 1) (λ i. source_text g t p f (source (head_of p) i))

-- 13: some page of some live batch is not the one expected
unfoldable pub some_batch_fails : Geometry → ℕ → List ℕ → List ℕ → Bool
some_batch_fails g t p f = any_from (live_of p) 0 (λ i. is_some (failed_page g t f (live_batch (head_of p) i)))

-- 4, 12, 13, 22, for partition t with the bytes p, flash, and room for so many bytes: "13 comes with 0 reads"
unfoldable pub text_checks : Geometry → ℕ → ℕ → List ℕ → List ℕ → Option Refusal
text_checks g t room p f =
    refuse_if (not (ltb t (partitions g))) 4
    (refuse_if (head_overfull g (head_of p)) 12
    (refuse_if (some_page_overfull g p) 12
    (refuse_if (some_batch_fails g t p f) 13
    (refuse_if (ltb room (length (partition_text g t p f))) 22 None))))
