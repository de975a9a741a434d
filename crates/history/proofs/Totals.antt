-- The entries of a partition, buffer and live batches together: how many there can be, and what a flush, a drop, a put and a del make of their number.
use Prim.Native.Nat.{ℕ, zero, suc, ◌+◌, ◌-◌, ◌*◌, ◌≤◌, ◌<◌}
use mathlib.Core.Bool.{cond}
use mathlib.Core.Path.{◌≡◌, refl, sym, ◌∙◌, ap}
use mathlib.Core.List.{List, [], ◌∷◌}
use native.Mathlib.Omega.{arith}
use native.Mathlib.Nat.{mul_assoc, mul-le-mul_right}
use lib.Dec.{eqb, leb}
use lib.ListN.{length}
use Rattle.model.specs.declared.Geometry.{Geometry}
use Rattle.model.specs.Search.{is_some}
use Rattle.model.specs.Geometry.{capacity, most_entries}
use Rattle.model.specs.Keys.{page_of}
use Rattle.model.specs.Batch.{sum}
use Rattle.model.proofs.Tests.{numbers, either}
use Rattle.model.proofs.Sums.{sum-zero, sum_same, sum_first, sum-most}
use Rattle.model.proofs.Tables.{Entry, find, store, erase, length-store}
use Rattle.history.proofs.Table.{Part, empty, live_after, flushed, dropped, stored, deleted}
use Rattle.history.proofs.Core.{pages_at, PartOk, flushed-pages}
use Rattle.history.proofs.Credit.{entries_in, remade-entries}

-- the entries of an age, and those of every age up to the oldest live batch
abbrev pub entries_at : Geometry → Part → ℕ → ℕ
entries_at g s a = sum g.pages (λ q. length (pages_at s a q))

unfoldable pub entries_all : Geometry → Part → ℕ
entries_all g s = sum (suc s.live) (entries_at g s)

-- those of the oldest live batch; they leave with a flush where K batches are live
abbrev pub oldest_in : Geometry → Part → ℕ
oldest_in g s = entries_at g s s.live

unfoldable pub leaving_in : Geometry → Part → ℕ
leaving_in g s = cond (leb g.kept s.live) (oldest_in g s) 0

-- the entry that a put adds, and the one that a del takes out of the buffer
unfoldable pub added_in : Geometry → ℕ → Part → ℕ
added_in g k s = cond (is_some (find k (s.buffer (page_of g k)))) 0 1

unfoldable pub removed_in : Geometry → ℕ → Part → ℕ
removed_in g k s = cond (is_some (find k s.list)) 0 (cond (is_some (find k (s.buffer (page_of g k)))) 1 0)

-- a key that is found leaves with one entry
erase-one : (k : ℕ) (l : List Entry) → length (erase k l) + cond (is_some (find k l)) 1 0 ≡ length l
unfolding find erase
erase-one k [] = refl
erase-one k (e ∷ l) = either (eqb k e.key) (λ h. simp h (omega arith)) (λ h. simp h (omega (arith, erase-one k l)))

pub empty-all : (g : Geometry) → entries_all g empty ≡ 0
unfolding entries_all sum
empty-all g = omega (arith, sum-zero g.pages)

module _ (g : Geometry) (s : Part) where
  -- the buffer's entries, and the batches'
  pub all-parts : entries_all g s ≡ entries_in g s + sum s.live (λ i. entries_at g s (suc i))
  unfolding entries_all
  all-parts = sum_first s.live (entries_at g s)

  -- a batch's pages, by its age and by its number
  pub batch-of-age : (n q : ℕ) → 1 ≤ n → pages_at s n q ≡ s.batch (s.flushes + 1 - n) q
  batch-of-age zero q l = absurd (omega arith)
  batch-of-age (suc a) q l = let e : s.flushes + 1 - suc a ≡ s.flushes - a = omega arith in ap (λ (n : ℕ). s.batch n q) (sym e)

  -- a put after a flush finds no entry of its key
  pub flushed-adds : (k : ℕ) → added_in g k (flushed g s) ≡ 1
  unfolding added_in flushed find
  flushed-adds k = refl

  module _ (ok : PartOk g s) where
    -- no page holds more than E, and K batches are live at most
    pages-fit : (a q : ℕ) → length (pages_at s a q) ≤ capacity g
    pages-fit zero q = ok.fits q
    pages-fit (suc a) q = ok.batch_fits (s.flushes - a) q

    pub all_most : entries_all g s ≤ most_entries g
    unfolding entries_all most_entries
    all_most =
        let each = g.pages * capacity g in
        let live : suc s.live ≤ g.kept + 1 = omega (arith, ok.live_kept) in
        rw mul_assoc
        (omega (
          arith,
          sum-most (suc s.live) each (entries_at g s) (λ a l. sum-most g.pages (capacity g) (λ q. length (pages_at s a q)) (λ q m. pages-fit a q)),
          mul-le-mul_right each live,
        ))

    -- a flush shifts every age by one, and what was of age K is leaving
    shifted : entries_all g (flushed g s) ≡ sum (live_after g.kept s.live) (entries_at g s)
    unfolding entries_all flushed
    shifted =
        sum_first (live_after g.kept s.live) (entries_at g (flushed g s))
        ∙ omega (
          arith,
          sum-zero g.pages,
          sum_same (live_after g.kept s.live) (entries_at g s) (λ a. entries_at g (flushed g s) (suc a))
              (λ a l. sum_same g.pages (λ q. length (pages_at s a q)) (λ q. length (pages_at (flushed g s) (suc a) q)) (λ q m. ap length (flushed-pages g s q a))),
        )

    pub flushed-all : entries_all g (flushed g s) + leaving_in g s ≡ entries_all g s
    unfolding entries_all leaving_in sum
    flushed-all = either (leb g.kept s.live)
        (λ h.
        let full : s.live ≡ g.kept = omega (numbers, ok.live_kept) in
        let stays : live_after g.kept s.live ≡ g.kept = omega arith in
        rw (shifted, h, stays, full) (omega arith))
        (λ h.
        let rises : live_after g.kept s.live ≡ suc s.live = omega numbers in
        rw (shifted, h, rises) (omega arith))

  -- a drop takes off those of the oldest live batch
  dropped-pages : (a q : ℕ) → pages_at (dropped s) a q ≡ pages_at s a q
  unfolding dropped
  dropped-pages zero q = refl
  dropped-pages (suc a) q = refl

  left : 1 ≤ s.live → entries_all g (dropped s) ≡ sum s.live (entries_at g s)
  unfolding entries_all dropped
  left any =
      let again : suc (s.live - 1) ≡ s.live = omega arith in
      ap (λ (n : ℕ). sum n (entries_at g (dropped s))) again
      ∙ sum_same s.live (entries_at g s) (entries_at g (dropped s))
      (λ a l. sum_same g.pages (λ q. length (pages_at s a q)) (λ q. length (pages_at (dropped s) a q)) (λ q m. ap length (dropped-pages a q)))

  pub dropped-all : 1 ≤ s.live → entries_all g (dropped s) + oldest_in g s ≡ entries_all g s
  unfolding entries_all sum
  dropped-all any = omega (arith, left any)

-- a put adds one entry to the buffer or none, and a del takes one out or none
module _ (g : Geometry) (s : Part) (k : ℕ) (inside : page_of g k < g.pages) where
  abbrev page : List Entry
  page = s.buffer (page_of g k)

  pub stored-all : (v : ℕ) → entries_all g (stored g k v s) ≡ entries_all g s + added_in g k s
  unfolding stored added_in
  stored-all v =
      let parts = all-parts g s in
      let now = all-parts g (stored g k v s) in
      let page-now = remade-entries g s k inside (store k v) in
      either (is_some (find k page))
      (λ h. let same : length (store k v page) ≡ length page = length-store k v page ∙ rw h in rw h (omega arith))
      (λ h. let more : length (store k v page) ≡ suc (length page) = length-store k v page ∙ rw h in rw h (omega arith))

  deleted-buffer : entries_in g (deleted g k s) + removed_in g k s ≡ entries_in g s
  unfolding deleted removed_in
  deleted-buffer = either (is_some (find k s.list))
      (λ h. simp h (omega arith))
      (λ h. simp h (omega (arith, remade-entries g s k inside (erase k), erase-one k page)))

  pub deleted-all : entries_all g (deleted g k s) + removed_in g k s ≡ entries_all g s
  unfolding deleted
  deleted-all = let parts = all-parts g s in let now = all-parts g (deleted g k s) in omega (arith, deleted-buffer)
