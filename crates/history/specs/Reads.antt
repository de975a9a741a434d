-- Which batches a get reads, in order, what it compares in their pages, and how its answer follows from them, or from the buffer.
use Rattle.std.specs.Prelude.{option_map, ℕ, ◌+◌, ◌<◌, Bool, true, cond, not, ◌&&◌, ◌≡◌, List, [], ◌∷◌, ◌++◌, Option, None, Some}
use Rattle.model.specs.declared.Geometry.{Geometry}
use Rattle.model.specs.Search.{is_some}
use Rattle.model.specs.Keys.{partition_of, page_of}
use Rattle.model.specs.Page.{value_at, searched, compared, expected}
use Rattle.model.specs.DeleteList.{listed_at}
use Rattle.model.specs.Partition.{head_of, listed_of, list_of, buffer_of, is_live, batch_passes, passing}
use Rattle.model.specs.Answers.{Areas, Answer, done, found, absent, shown, refused, buffer, batch}
use Rattle.model.specs.Batch.{batch_page}
use Rattle.model.specs.Calls.{geometry_in, key_partition}

-- Of these batches, those whose page a get of k reads: it goes on past a page that is as it must be and does not hold the key.
unfoldable pub read_of : Geometry → ℕ → List ℕ → List ℕ → List ℕ
read_of g k f [] = []
read_of g k f (n ∷ ns) =
    let page : List ℕ = batch_page g (partition_of g k) f n (page_of g k) in
    n ∷ cond (expected g (partition_of g k) n (page_of g k) page && not (is_some (searched k page))) (read_of g k f ns) []

-- None for a listed key, and none for a key in its buffer page. Otherwise it goes through the live batches whose filter passes.
unfoldable pub batches_read : Geometry → ℕ → List ℕ → List ℕ → List ℕ
batches_read g k p f =
    cond (is_some (listed_at (listed_of p) k (list_of g p))) []
    (cond (is_some (searched k (buffer_of g p (page_of g k)))) []
    (read_of g k f (passing g k p)))

-- the numbers of the batches whose page a get of k reads, in order
abbrev pub read_by : Areas → ℕ → List ℕ
read_by a k = batches_read (geometry_in a) k (key_partition a k) a.flash

-- of each of these batches the key's page: the entries compared, together
unfoldable pub compared_in : Geometry → ℕ → List ℕ → List ℕ → ℕ
compared_in g k f [] = 0
compared_in g k f (n ∷ ns) = compared k (batch_page g (partition_of g k) f n (page_of g k)) + compared_in g k f ns

-- None for a listed key. Otherwise those of the key's buffer page and of the pages that are read (02, job 8).
unfoldable pub entries_compared : Geometry → ℕ → List ℕ → List ℕ → ℕ
entries_compared g k p f =
    cond (is_some (listed_at (listed_of p) k (list_of g p))) 0
    (compared k (buffer_of g p (page_of g k)) + compared_in g k f (batches_read g k p f))

-- the entries that a get of k compares
abbrev pub compared_by : Areas → ℕ → ℕ
compared_by a k = entries_compared (geometry_in a) k (key_partition a k) a.flash

-- live batches of the partition with the bytes p, each below the one before, all below `high`: none stands twice
abbrev pub LiveFalling : List ℕ → ℕ → List ℕ → Type 0
LiveFalling p high [] = Unit {0}
LiveFalling p high (n ∷ ns) = (n < high) × (is_live (head_of p) n ≡ true) × LiveFalling p n ns

-- the filter of batch n passes the key
abbrev pub is_passed : Areas → ℕ → ℕ → Bool
is_passed a k n = batch_passes (geometry_in a) k (key_partition a k) n

-- what a page holds of the key
abbrev pub held_on : List ℕ → ℕ → Option ℕ
held_on page k = option_map (value_at page) (searched k page)

-- the key's page of batch n
abbrev pub held_in : Areas → ℕ → ℕ → Option ℕ
held_in a k n = held_on (batch_page (geometry_in a) (partition_of (geometry_in a) k) a.flash n (page_of (geometry_in a) k)) k

-- and its buffer page
abbrev pub held_in_buffer : Areas → ℕ → Option ℕ
held_in_buffer a k = held_on (buffer_of (geometry_in a) (key_partition a k) (page_of (geometry_in a) k)) k

-- of each of these batches the filter passes the key, and the page lacks it
abbrev pub AllLack : Areas → ℕ → List ℕ → Type 0
AllLack a k [] = Unit {0}
AllLack a k (n ∷ ns) = (is_passed a k n ≡ true) × (held_in a k n ≡ None) × AllLack a k ns

-- the value v is batch n's: n was read last, and before it only batches that lack the key
pub record FoundIn (a : Areas) (k v n : ℕ) (read : List ℕ) : Type 0 where
  pub before : List ℕ
  pub last : read ≡ before ++ n ∷ []
  pub lacking : AllLack a k before
  pub passed : is_passed a k n ≡ true
  pub holds : held_in a k n ≡ Some v

-- how a get's answer follows from the batches that it read, and from the buffer page
abbrev pub Follows : Areas → ℕ → Answer → List ℕ → Type 0
Follows a k (found v c (batch n)) read = FoundIn a k v n read
Follows a k (found v c buffer) read = (read ≡ []) × (held_in_buffer a k ≡ Some v)
Follows a k (absent c) read = AllLack a k read
Follows a k (done n) read = Unit {0}
Follows a k (shown s) read = Unit {0}
Follows a k (refused n r) read = Unit {0}
