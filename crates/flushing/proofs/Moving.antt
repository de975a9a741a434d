-- Memory with the first q pages of the partition's buffer emptied: F and the pages behind them are as they were.
use Prim.Native.Nat.{ℕ, ◌+◌, ◌≤◌, ◌<◌}
use mathlib.Core.Bool.{true}
use mathlib.Core.List.{List}
use mathlib.Core.Path.{◌≡◌, sym, ◌∙◌, ap}
use native.Mathlib.Omega.{arith}
use lib.ListN.{length}
use Rattle.model.specs.declared.Geometry.{Geometry}
use Rattle.model.specs.Bytes.{within}
use Rattle.model.specs.Geometry.{allowed, partitions, buffer_at, stride, partition_at, memory_need}
use Rattle.model.specs.Page.{emptied}
use Rattle.model.specs.Partition.{partition, flushes_of, buffer_of}
use Rattle.model.specs.Format.{emptied_pages}
use Rattle.model.specs.Flush.{with_batch_page, with_batch}
use Rattle.model.proofs.Lengths.{length-emptied_pages}
use Rattle.model.proofs.Parts.{length-within, within_same}
use Rattle.model.proofs.Partitions.{emptied-next, not-emptied, flushes-not-emptied}
use Rattle.model.proofs.PartitionsFlash.{page-same, batch-next}
use Rattle.partition.proofs.Lending.{partition-whole}
use Rattle.partition.proofs.Changing.{changed-there, changed-again}

module _ (g : Geometry) (m : List ℕ) (fine : allowed g ≡ true) (fits : memory_need g ≤ length m) (t : ℕ) (below : t < partitions g) (q : ℕ) {m₁ : List ℕ} (was : m₁ ≡ within (partition_at g t) (stride g) (emptied_pages g t q) m) where
  abbrev own : List ℕ
  own = partition g t m

  own-long : length own ≡ stride g
  own-long = (partition-whole g m fine fits t below).long

  there : partition g t m₁ ≡ emptied_pages g t q own
  there = changed-there g m fine fits t below (emptied_pages g t q) (length-emptied_pages g t q) was

  pub same_number : flushes_of (partition g t m₁) ≡ flushes_of own
  same_number = ap flushes_of there ∙ flushes-not-emptied g t own q

  -- page q is written from where it is still as at the start
  pub page_moved : q < g.pages → (f₀ : List ℕ) {f f' : List ℕ} → f ≡ with_batch g t own q f₀ → f' ≡ with_batch_page g t (partition g t m₁) q f → f' ≡ with_batch g t own (q + 1) f₀
  page_moved l f₀ ef e =
      e ∙ ap (with_batch_page g t (partition g t m₁) q) ef
      ∙ page-same g t q (partition g t m₁) own _ same_number (ap (λ (p : List ℕ). buffer_of g p q) there ∙ not-emptied g t own own-long q q (omega arith) l)
      ∙ sym (batch-next g t own f₀ q)

  -- and emptied
  pub page-emptied : {m₂ : List ℕ} → m₂ ≡ within (partition_at g t) (stride g) (within (buffer_at g q) g.page (emptied q t)) m₁ → m₂ ≡ within (partition_at g t) (stride g) (emptied_pages g t (q + 1)) m
  page-emptied e =
      changed-again g m fine fits t below (emptied_pages g t q) (length-emptied_pages g t q) was (within (buffer_at g q) g.page (emptied q t)) (length-within (buffer_at g q) g.page (emptied q t)) e
      ∙ within_same (partition_at g t) (stride g) _ (emptied_pages g t (q + 1)) m (sym (emptied-next g t own q))
