-- Memory with its partition prepared: the head and the buffer are as they were, so the batch that is written from it is that of the partition as it was, and what the end of the flush leaves is the flushed partition.
use Prim.Native.Nat.{ℕ, ◌+◌, ◌≤◌}
use mathlib.Core.Bool.{true}
use mathlib.Core.List.{List}
use mathlib.Core.Path.{◌≡◌, refl, ◌∙◌, ap}
use native.Mathlib.Omega.{arith}
use lib.ListN.{length}
use Rattle.model.specs.declared.Geometry.{Geometry}
use Rattle.model.specs.Bytes.{within}
use Rattle.model.specs.Geometry.{allowed, stride, partition_at, memory_need}
use Rattle.model.specs.Partition.{Head, with_head, flushes_of, listed_of, buffer_of, partition}
use Rattle.model.specs.Format.{emptied_pages}
use Rattle.model.specs.Batch.{delisted}
use Rattle.model.specs.Flush.{with_batch, filtered, head_after, flushed}
use Rattle.model.proofs.Lengths.{length-filtered, length-delisted, length-emptied_pages, length-with_head}
use Rattle.model.proofs.Parts.{within_same}
use Rattle.model.proofs.PartitionsFlash.{batch-same}
use Rattle.model.proofs.PartitionsCalls.{laid-prepared}
use Rattle.partition.specs.Ready.{Flushable}
use Rattle.partition.proofs.Lending.{partition-whole}
use Rattle.partition.proofs.Changing.{changed-there, changed-fits, changed-again}

abbrev pub prepared : Geometry → List ℕ → List ℕ
prepared g p = delisted g g.kept (flushes_of p) (listed_of p) (filtered g p)

pub length-prepared : (g : Geometry) (p : List ℕ) → length (prepared g p) ≡ length p
length-prepared g p = length-delisted g _ _ _ _ ∙ length-filtered g p

pub number-after : (g : Geometry) (p : List ℕ) → (head_after g p).flushes ≡ flushes_of p + 1
unfolding head_after
number-after g p = refl

module _ (g : Geometry) (m : List ℕ) (fine : allowed g ≡ true) (fits : memory_need g ≤ length m) (t : ℕ) (can : Flushable g t (partition g t m)) {m₁ : List ℕ} (e : m₁ ≡ within (partition_at g t) (stride g) (prepared g) m) where
  abbrev own : List ℕ
  own = partition g t m

  own-long : length own ≡ stride g
  own-long = (partition-whole g m fine fits t can.below).long

  behind : partition g t m₁ ≡ prepared g own
  behind = changed-there g m fine fits t can.below (prepared g) (length-prepared g) e

  pub same_number : flushes_of (partition g t m₁) ≡ flushes_of own
  same_number = ap flushes_of behind ∙ ap (λ (h : Head). h.flushes) (laid-prepared g fine own own-long).head

  pub same-batch : (f : List ℕ) {f' : List ℕ} → f' ≡ with_batch g t (partition g t m₁) g.pages f → f' ≡ with_batch g t own g.pages f
  same-batch f b = b ∙ batch-same g t (partition g t m₁) f own same_number (λ q l. ap (λ (p : List ℕ). buffer_of g p q) behind ∙ (laid-prepared g fine own own-long).buffer q l) g.pages (omega arith)

  -- with the buffer emptied, and then with the new head
  module _ {m₂ : List ℕ} (emptied : m₂ ≡ within (partition_at g t) (stride g) (emptied_pages g t g.pages) m₁) where
    both : m₂ ≡ within (partition_at g t) (stride g) (λ p. emptied_pages g t g.pages (prepared g p)) m
    both = changed-again g m fine fits t can.below (prepared g) (length-prepared g) e (emptied_pages g t g.pages) (length-emptied_pages g t g.pages) emptied

    keeps : (p : List ℕ) → length (emptied_pages g t g.pages (prepared g p)) ≡ length p
    keeps p = length-emptied_pages g t g.pages (prepared g p) ∙ length-prepared g p

    pub fits-behind : memory_need g ≤ length m₂
    fits-behind = changed-fits g m fine fits t can.below _ keeps both

    pub all-flushed : {h : Head} {m₃ : List ℕ} → h ≡ head_after g own → m₃ ≡ within (partition_at g t) (stride g) (with_head h) m₂ → m₃ ≡ within (partition_at g t) (stride g) (flushed g t) m
    unfolding flushed
    all-flushed {h} eh l =
        changed-again g m fine fits t can.below _ keeps both (with_head h) (length-with_head h) l
        ∙ within_same (partition_at g t) (stride g) _ (flushed g t) m (ap (λ (x : Head). with_head x (emptied_pages g t g.pages (prepared g own))) eh)
