-- Each change keeps the length of what it changes. (Of `closed_up`, Closing says it.)
use mathlib.Core.Path.{◌≡◌, refl}
use mathlib.Core.List.{List}
use Rattle.std.specs.Prelude.{Option, None, Some}
use Prim.Native.Nat.{ℕ, zero, suc}
use lib.ListN.{length, length-set, length-replicate}
use lib.Seq.{length-sets}
use Rattle.model.specs.Geometry.{filter_size}
use Rattle.model.specs.Opening.{with_opening}
use Rattle.model.specs.Page.{searched, appended, replaced, removed, stored_at, stored, removed_at, without, emptied, numbered}
use Rattle.model.specs.DeleteList.{listed_at, enlisted, struck, expired}
use Rattle.model.specs.Filter.{with_bit, with_bits, with_entries, with_pages, filter_for}
use Rattle.model.specs.Partition.{Head, with_head, totalled, listed_of, list_of}
use Rattle.model.specs.Format.{emptied_pages, emptied_partitions, formatted}
use Rattle.model.specs.Batch.{delisted}
use Rattle.model.specs.Flush.{filtered, flushed, with_batch_page, with_batch}
use Rattle.model.specs.Drop.{dropped}
use Rattle.model.specs.Put.{unlisted_at, unlisted, buffered}
use Rattle.model.specs.Del.{unbuffered, listed_with}
use Rattle.model.specs.declared.Geometry.{Geometry}
use Rattle.model.proofs.Parts.{length-within}
use Rattle.model.proofs.Words.{length-write}
use Rattle.model.proofs.Closing.{length-closed_up}

-- ---- a page
pub length-appended : (k v : ℕ) (p : List ℕ) → length (appended k v p) ≡ length p
unfolding appended
length-appended k v p = simp length-write

pub length-replaced : (i v : ℕ) (p : List ℕ) → length (replaced i v p) ≡ length p
unfolding replaced
length-replaced i v p = simp length-write

pub length_removed : (i : ℕ) (p : List ℕ) → length (removed i p) ≡ length p
unfolding removed
length_removed i p = simp (length-write, length-closed_up)

length-stored_at : (o : Option ℕ) (k v : ℕ) (p : List ℕ) → length (stored_at o k v p) ≡ length p
length-stored_at (Some i) k v p = length-replaced i v p
length-stored_at None k v p = length-appended k v p

pub length-stored : (k v : ℕ) (p : List ℕ) → length (stored k v p) ≡ length p
unfolding stored
length-stored k v p = length-stored_at (searched k p) k v p

length-removed_at : (o : Option ℕ) (p : List ℕ) → length (removed_at o p) ≡ length p
length-removed_at (Some i) p = length_removed i p
length-removed_at None p = refl

pub length_without : (k : ℕ) (p : List ℕ) → length (without k p) ≡ length p
unfolding without
length_without k p = length-removed_at (searched k p) p

pub length-emptied : (q t : ℕ) (p : List ℕ) → length (emptied q t p) ≡ length p
unfolding emptied
length-emptied q t p = simp (length-write, length-replicate)

pub length-numbered : (n : ℕ) (p : List ℕ) → length (numbered n p) ≡ length p
unfolding numbered
length-numbered n p = simp length-write

-- ---- a delete list
pub length-enlisted : (n k stamp : ℕ) (l : List ℕ) → length (enlisted n k stamp l) ≡ length l
unfolding enlisted
length-enlisted n k stamp l = simp length-write

pub length-struck : (i n : ℕ) (l : List ℕ) → length (struck i n l) ≡ length l
unfolding struck
length-struck i n l = simp length-closed_up

pub length-expired : (kept flushes n : ℕ) (l : List ℕ) → length (expired kept flushes n l) ≡ length l
unfolding expired
length-expired kept flushes n l = simp length-closed_up

-- ---- a filter
pub length-with_bit : (b : ℕ) (f : List ℕ) → length (with_bit b f) ≡ length f
unfolding with_bit
length-with_bit b f = simp length-set

pub length-with_bits : (g : Geometry) (x i : ℕ) (f : List ℕ) → length (with_bits g x i f) ≡ length f
unfolding with_bits
length-with_bits g x zero f = refl
length-with_bits g x (suc i) f = simp (length-with_bit, length-with_bits g x i f)

pub length-with_entries : (g : Geometry) (p : List ℕ) (i : ℕ) (f : List ℕ) → length (with_entries g p i f) ≡ length f
unfolding with_entries
length-with_entries g p zero f = refl
length-with_entries g p (suc i) f = simp (length-with_bits, length-with_entries g p i f)

pub length-with_pages : (g : Geometry) (page : ℕ → List ℕ) (q : ℕ) (f : List ℕ) → length (with_pages g page q f) ≡ length f
unfolding with_pages
length-with_pages g page zero f = refl
length-with_pages g page (suc q) f = simp (length-with_entries, length-with_pages g page q f)

pub length-filter_for : (g : Geometry) (page : ℕ → List ℕ) → length (filter_for g page) ≡ filter_size g
unfolding filter_for
length-filter_for g page = simp (length-with_pages, length-replicate)

-- ---- a partition, and memory
pub length-with_head : (h : Head) (p : List ℕ) → length (with_head h p) ≡ length p
unfolding with_head
length-with_head h p = simp length-write

pub length-totalled : (more less : ℕ) (p : List ℕ) → length (totalled more less p) ≡ length p
unfolding totalled
length-totalled more less p = length-with_head _ p

pub length-with_opening : (g : Geometry) (m : List ℕ) → length (with_opening g m) ≡ length m
unfolding with_opening
length-with_opening g m = simp length-write

pub length-emptied_pages : (g : Geometry) (t q : ℕ) (p : List ℕ) → length (emptied_pages g t q p) ≡ length p
unfolding emptied_pages
length-emptied_pages g t zero p = refl
length-emptied_pages g t (suc q) p = simp (length-within, length-emptied_pages g t q p)

pub length-emptied_partitions : (g : Geometry) (t : ℕ) (m : List ℕ) → length (emptied_partitions g t m) ≡ length m
unfolding emptied_partitions
length-emptied_partitions g zero m = refl
length-emptied_partitions g (suc t) m = simp (length-within, length-emptied_partitions g t m)

pub length-formatted : (g : Geometry) (m : List ℕ) → length (formatted g m) ≡ length m
unfolding formatted
length-formatted g m = simp (length-emptied_partitions, length-with_opening, length-sets)

-- ---- flush
pub length-filtered : (g : Geometry) (p : List ℕ) → length (filtered g p) ≡ length p
unfolding filtered
length-filtered g p = simp length-within

pub length-delisted : (g : Geometry) (back flushes listed : ℕ) (p : List ℕ) → length (delisted g back flushes listed p) ≡ length p
unfolding delisted
length-delisted g back flushes listed p = simp length-within

pub length-flushed : (g : Geometry) (t : ℕ) (p : List ℕ) → length (flushed g t p) ≡ length p
unfolding flushed
length-flushed g t p = simp (length-with_head, length-emptied_pages, length-delisted, length-filtered)

pub length-dropped : (g : Geometry) (less : ℕ) (p : List ℕ) → length (dropped g less p) ≡ length p
unfolding dropped
length-dropped g less p = simp (length-with_head, length-delisted)

pub length-with_batch_page : (g : Geometry) (t : ℕ) (p : List ℕ) (q : ℕ) (f : List ℕ) → length (with_batch_page g t p q f) ≡ length f
unfolding with_batch_page
length-with_batch_page g t p q f = length-within _ _ _ f

pub length-with_batch : (g : Geometry) (t : ℕ) (p : List ℕ) (q : ℕ) (f : List ℕ) → length (with_batch g t p q f) ≡ length f
unfolding with_batch
length-with_batch g t p zero f = refl
length-with_batch g t p (suc q) f = simp (length-with_batch_page, length-with_batch g t p q f)

-- ---- put
length-unlisted_at : (o : Option ℕ) (g : Geometry) (p : List ℕ) → length (unlisted_at o g p) ≡ length p
length-unlisted_at (Some i) g p = simp (length-with_head, length-within)
length-unlisted_at None g p = refl

pub length-unlisted : (g : Geometry) (k : ℕ) (p : List ℕ) → length (unlisted g k p) ≡ length p
unfolding unlisted
length-unlisted g k p = length-unlisted_at (listed_at (listed_of p) k (list_of g p)) g p

pub length-buffered : (g : Geometry) (k v : ℕ) (p : List ℕ) → length (buffered g k v p) ≡ length p
unfolding buffered
length-buffered g k v p = simp length-within

-- ---- del
pub length-unbuffered : (g : Geometry) (k : ℕ) (p : List ℕ) → length (unbuffered g k p) ≡ length p
unfolding unbuffered
length-unbuffered g k p = simp length-within

pub length-listed_with : (o : Option ℕ) (g : Geometry) (k : ℕ) (p : List ℕ) → length (listed_with o g k p) ≡ length p
length-listed_with (Some stamp) g k p = simp (length-with_head, length-within)
length-listed_with None g k p = refl
