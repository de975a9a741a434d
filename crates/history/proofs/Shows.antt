-- Bytes that show a partition of the table: those of memory, and those of its slots in flash.
-- It is a relation and no function: flash keeps dead batches, and what stands behind the used records is not looked at.
use Prim.Native.Nat.{ℕ, ◌<◌}
use mathlib.Core.Bool.{Bool, true}
use mathlib.Core.Path.{◌≡◌, refl, sym, ◌∙◌, ap, ap₂}
use mathlib.Core.List.{List}
use Rattle.std.specs.Prelude.{Option, None, Some}
use lib.ListN.{length}
use Rattle.model.specs.declared.Geometry.{Geometry}
use Rattle.model.specs.Bytes.{word}
use Rattle.model.specs.Search.{is_some}
use Rattle.model.specs.Geometry.{allowed, stride}
use Rattle.model.specs.DeleteList.{listed_at}
use Rattle.model.specs.Partition.{Head, head_of, flushes_of, listed_of, list_of, live_of, buffer_of, slot, is_live, slot_bits}
use Rattle.model.specs.Batch.{batch_page}
use Rattle.model.proofs.Sizes.{slot_lt}
use Rattle.model.proofs.Tables.{Entry, find, has_bit}
use Rattle.model.proofs.Entries.{held_at, length-entries_from}
use Rattle.model.proofs.ListEntries.{list_entries, find-listed}
use Rattle.model.proofs.Heads.{HeadWords, live-bounds, bounds-live}
use Rattle.model.proofs.Partitions.{Laid}
use Rattle.history.proofs.Table.{Part, Live}
use Rattle.history.proofs.Pages.{ShowsPage}

-- in flash, page q of batch n with these entries
pub record ShowsBatchPage (g : Geometry) (t n q : ℕ) (p : List ℕ) (es : List Entry) : Type 0 where
  pub page : ShowsPage g t q p es
  pub flush : word 4 p 8 ≡ n

pub same-batch-page : {g : Geometry} {t n q : ℕ} {p p' : List ℕ} {es es' : List Entry} → p' ≡ p → es' ≡ es
    → ShowsBatchPage g t n q p es → ShowsBatchPage g t n q p' es'
same-batch-page e e' shows = rw (e, e') shows

-- Partition t, with the bytes p in memory, and flash f. What counts of a live batch's filter is which bits are set.
pub record ShowsPart (g : Geometry) (t : ℕ) (p f : List ℕ) (s : Part) : Type 0 where
  pub long : length p ≡ stride g
  pub words : HeadWords (head_of p)
  pub flushes : flushes_of p ≡ s.flushes
  pub live : live_of p ≡ s.live
  pub list : list_entries (listed_of p) (list_of g p) ≡ s.list
  pub buffer : (q : ℕ) → q < g.pages → ShowsPage g t q (buffer_of g p q) (s.buffer q)
  pub batch : (n : ℕ) → Live s n → (q : ℕ) → q < g.pages → ShowsBatchPage g t n q (batch_page g t f n q) (s.batch n q)
  pub filter : (n b : ℕ) → Live s n → b < g.bits → slot_bits g p (slot g n) b ≡ has_bit g (s.batch n) b

-- bytes are shown by their parts: what is asked of each stands here in the order of the fields
pub shows-laid : {g : Geometry} {t : ℕ} {p f : List ℕ} {s : Part} {h : Head} {l : List ℕ} {bits : ℕ → ℕ → Bool} {bs : ℕ → List ℕ}
    → allowed g ≡ true → Laid g p h l bits bs
    → HeadWords h → h.flushes ≡ s.flushes → h.live ≡ s.live → list_entries h.listed l ≡ s.list
    → ((q : ℕ) → q < g.pages → ShowsPage g t q (bs q) (s.buffer q))
    → ((n : ℕ) → Live s n → (q : ℕ) → q < g.pages → ShowsBatchPage g t n q (batch_page g t f n q) (s.batch n q))
    → ((n b : ℕ) → Live s n → b < g.bits → bits (slot g n) b ≡ has_bit g (s.batch n) b)
    → ShowsPart g t p f s
shows-laid {g} ok at words flushes live list buffer batch filter = record {
  long = at.long;
  words = rw at.head words;
  flushes = ap (λ (h : Head). h.flushes) at.head ∙ flushes;
  live = ap (λ (h : Head). h.live) at.head ∙ live;
  list = ap₂ list_entries (ap (λ (h : Head). h.listed) at.head) at.list ∙ list;
  buffer = λ q l. rw (at.buffer q l) (buffer q l);
  batch = batch;
  filter = λ n b live l. at.filter (slot g n) b (slot_lt g ok n) l ∙ filter n b live l;
}

module _ {g : Geometry} {t : ℕ} {p f : List ℕ} {s : Part} (shows : ShowsPart g t p f s) where
  -- a batch is live by the head where it is by the table
  pub live-by-head : (n : ℕ) → Live s n → is_live (head_of p) n ≡ true
  live-by-head n l = bounds-live (head_of p) n l.first (rw shows.flushes l.flushed) (rw (shows.live, shows.flushes) l.near)

  pub live-by-table : (n : ℕ) → is_live (head_of p) n ≡ true → Live s n
  live-by-table n e =
      let bounds = live-bounds (head_of p) n e in
      record { first = bounds.0; flushed = rw shows.flushes at bounds.1; near = rw (shows.live, shows.flushes) at bounds.2 }

  pub list_count : listed_of p ≡ length s.list
  list_count = sym (length-entries_from 4 (listed_of p) 0 (list_of g p)) ∙ ap length shows.list

  pub list-find : (k : ℕ) → find k s.list ≡ held_at 4 (list_of g p) (listed_at (listed_of p) k (list_of g p))
  list-find k = ap (find k) (sym shows.list) ∙ find-listed k (listed_of p) (list_of g p)

  pub list-has : (k : ℕ) → is_some (listed_at (listed_of p) k (list_of g p)) ≡ is_some (find k s.list)
  list-has k = rw (list-find k) (same (listed_at (listed_of p) k (list_of g p)))
    where
      same : (o : Option ℕ) → is_some o ≡ is_some (held_at 4 (list_of g p) o)
      same None = refl
      same (Some i) = refl
