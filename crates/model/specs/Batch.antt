-- A batch in flash: its pages and its entries; and what goes with a batch that a flush pushes out or a drop takes off.
use Rattle.std.specs.Prelude.{ℕ, zero, suc, ◌+◌, ◌-◌, Bool, cond, not, List, leb, Option, None}
use Rattle.model.specs.Bytes.{mid, within}
use Rattle.model.specs.Search.{first_from}
use Rattle.model.specs.Geometry.{list_at, list_size, slot_page_at}
use Rattle.model.specs.Page.{count_of, expected}
use Rattle.model.specs.DeleteList.{expired, unexpired}
use Rattle.model.specs.Partition.{Head, head_of, flushes_of, listed_of, list_of, slot, oldest}
use Rattle.model.specs.declared.Geometry.{Geometry}

-- page q of batch n of partition t
abbrev pub batch_page : Geometry → ℕ → List ℕ → ℕ → ℕ → List ℕ
batch_page g t f n q = mid (slot_page_at g t (slot g n) q) g.page f

-- f 0 + … + f (n − 1)
unfoldable pub sum : ℕ → (ℕ → ℕ) → ℕ
sum zero f = 0
sum (suc n) f = f n + sum n f

-- the page counts of the first q pages together
abbrev pub entries_of : (ℕ → List ℕ) → ℕ → ℕ
entries_of page q = sum q (λ i. count_of (page i))

-- the first of batch n's pages whose head is not the one expected
abbrev pub failed_page : Geometry → ℕ → List ℕ → ℕ → Option ℕ
failed_page g t f n = first_from g.pages 0 (λ q. not (expected g t n q (batch_page g t f n q)))

-- the entries of batch n
abbrev pub batch_entries : Geometry → ℕ → List ℕ → ℕ → ℕ
batch_entries g t f n = entries_of (batch_page g t f n) g.pages

-- A flush pushes a batch out when K are live: the oldest.
unfoldable pub pushes_out : Geometry → Head → Bool
pushes_out g h = leb g.kept h.live

-- the first of its heads that is not the one expected
unfoldable pub failed_head : Geometry → ℕ → List ℕ → List ℕ → Option ℕ
failed_head g t p f = cond (pushes_out g (head_of p)) (failed_page g t f (oldest (head_of p))) None

-- the entries that leave with it
unfoldable pub leaving : Geometry → ℕ → List ℕ → List ℕ → ℕ
leaving g t p f = cond (pushes_out g (head_of p)) (batch_entries g t f (oldest (head_of p))) 0

-- the list without the entries stamped F + 1 − back: with a flush, whether a batch goes or not, back is K; with a drop it is the live number
unfoldable pub delisted : Geometry → ℕ → ℕ → ℕ → List ℕ → List ℕ
delisted g back flushes listed p = within list_at (list_size g) (expired back flushes listed) p

-- how many leave so
abbrev pub delistings : Geometry → ℕ → List ℕ → ℕ
delistings g back p = listed_of p - unexpired back (flushes_of p) (listed_of p) (list_of g p)
