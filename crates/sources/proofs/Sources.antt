-- Each place that a text goes through is the buffer or a live batch; of what is readable each page there is whole, and one of a batch is the one expected.
use Prim.Native.Nat.{ℕ, ◌+◌, ◌*◌, ◌≤◌, ◌<◌}
use mathlib.Core.Bool.{true}
use mathlib.Core.List.{List}
use mathlib.Core.Logic.{⊎_elim}
use mathlib.Core.Path.{◌≡◌}
use native.Mathlib.Omega.{arith}
use lib.ListN.{length}
use Rattle.model.specs.declared.Geometry.{Geometry}
use Rattle.model.specs.Geometry.{capacity, slot_page_at}
use Rattle.model.specs.Page.{count_of, expected}
use Rattle.model.specs.Partition.{head_of, live_of, slot, is_live}
use Rattle.model.specs.Batch.{batch_page}
use Rattle.model.specs.Answers.{Place, buffer, batch}
use Rattle.model.specs.PartitionText.{live_batch, source, source_page}
use Rattle.model.proofs.Answering.{source-batch, source-buffer}
use Rattle.model.proofs.Checks.{pages-fit}
use Rattle.model.proofs.Heads.{head-fits, bounds-live}
use Rattle.model.proofs.Lookup.{expected-head}
use Rattle.model.proofs.Parts.{length-mid, lt-or-ge}
use Rattle.model.proofs.Sizes.{sizes, slot_lt, slot-page-fits}
use Rattle.model.proofs.TextGets.{live-expected}
use Rattle.partition.proofs.Inside.{page-inside}
use Rattle.answers.specs.Told.{place}
use Rattle.sources.specs.Readable.{Readable, IsSource, IsSpot, spot_page}
use Rattle.sources.specs.declared.Spot.{Spot}

module _ (g : Geometry) (t : ℕ) (p f : List ℕ) (r : Readable g t p f) where
  live-batch : (i : ℕ) → i < live_of p → is_live (head_of p) (live_batch (head_of p) i) ≡ true
  live-batch i l = let h = head-fits g (head_of p) r.head in bounds-live (head_of p) (live_batch (head_of p) i) (omega arith) (omega (arith, h.flushed)) (omega (arith, h.flushed))

  pub source_is : (i : ℕ) → IsSource (head_of p) (source (head_of p) i)
  source_is i = ⊎_elim (λ (l : i < live_of p). rw (source-batch (head_of p) i l) (live-batch i l)) (λ (l : live_of p ≤ i). rw (source-buffer (head_of p) i l) tt) (lt-or-ge i (live_of p))

  pub batch-inside : (n q : ℕ) → q < g.pages → slot_page_at g t (slot g n) q + g.page ≤ length f
  batch-inside n q l = omega (arith, slot-page-fits g t (slot g n) q r.below (slot_lt g r.whole.fine n) l, r.flash_fits)

  pub batch-expected : (n q : ℕ) → is_live (head_of p) n ≡ true → q < g.pages → expected g t n q (batch_page g t f n q) ≡ true
  batch-expected n q e l = live-expected g t p f r.batches n q e l

  pub source-page-fits : (at : Place) (q : ℕ) → IsSource (head_of p) at → q < g.pages → (length (source_page g t p f at q) ≡ g.page) × (count_of (source_page g t p f at q) ≤ capacity g)
  source-page-fits buffer q s l = (length-mid _ _ p (page-inside g p r.whole q l), pages-fit g p r.pages q l)
  source-page-fits (batch n) q s l = (
    length-mid _ _ f (batch-inside n q l),
    (expected-head g t n q (batch_page g t f n q) (batch-expected n q s l)).fits,
  )

-- a page there, lent
pub record Lent (g : Geometry) (page : List ℕ) : Type 0 where
  pub long : length page ≡ g.page
  pub few : count_of page ≤ capacity g
  pub inside : 16 + 16 * count_of page ≤ length page

pub lent : {g : Geometry} {s : Spot} {p f page : List ℕ} → IsSpot g s p f → page ≡ spot_page g s p f → Lent g page
lent {g} {s} {p} {f} spot e =
    let fits = source-page-fits g s.partition p f spot.readable (place s.at) s.page spot.source spot.below in
    rw e (record { long = fits.0; few = fits.1; inside = omega (arith, fits.0, fits.1, (sizes g spot.readable.whole.fine).page-is) })
