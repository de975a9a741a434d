-- A formatted memory shows the empty table, and counts no entry.
use Prim.Native.Nat.{ℕ, ◌≤◌, ◌<◌}
use mathlib.Core.Bool.{true}
use mathlib.Core.Path.{◌≡◌, sym, ◌∙◌, ap}
use mathlib.Core.List.{List}
use native.Mathlib.Omega.{arith}
use lib.ListN.{length, length-replicate}
use Rattle.model.specs.declared.Geometry.{Geometry}
use Rattle.model.specs.Bytes.{zeros}
use Rattle.model.specs.Geometry.{allowed, partitions, stride, memory_need, flash_need}
use Rattle.model.specs.Partition.{Head, total_of, buffer_of}
use Rattle.model.specs.Answers.{Areas}
use Rattle.model.specs.Format.{emptied_pages, formatted}
use Rattle.model.proofs.Words.{word-zero}
use Rattle.model.proofs.Sizes.{sizes}
use Rattle.model.proofs.Lengths.{length-formatted}
use Rattle.model.proofs.Entries.{entries_from}
use Rattle.model.proofs.Partitions.{laid, laid-emptied}
use Rattle.model.proofs.PartitionsFormat.{formatted-geometry, formatted-eighth, formatted-partition}
use Rattle.model.proofs.PartitionsCalls.{page-long}
use Rattle.history.proofs.Table.{empty}
use Rattle.history.proofs.Totals.{empty-all}
use Rattle.history.proofs.Pages.{shows-emptied}
use Rattle.history.proofs.Shows.{ShowsPart, shows-laid}
use Rattle.history.proofs.Areas.{Shows, AllCounted}

module _ (g : Geometry) (ok : allowed g ≡ true) where
  -- a partition of zeros, its buffer emptied
  shows-empty : (t : ℕ) → t < partitions g → (f : List ℕ) → ShowsPart g t (emptied_pages g t g.pages (zeros (stride g))) f empty
  unfolding entries_from
  shows-empty t below f =
      let n = stride g in
      let p : List ℕ = zeros n in
      let long : length p ≡ stride g = length-replicate n 0 in
      let no_flush = word-zero 4 n 0 in
      let none_listed = word-zero 4 n 4 in
      shows-laid ok (laid-emptied g ok t (laid g p long) (page-long g ok p long))
      (record { flushes = omega arith; listed = omega arith; total = omega (arith, word-zero 4 n 8); live = omega (arith, word-zero 4 n 12) }) no_flush (word-zero 4 n 12) (rw none_listed)
      (λ q l. shows-emptied g ok t q (buffer_of g p q) (omega (arith, (sizes g ok).partitions-max)) (omega (arith, (sizes g ok).pages-max)) (page-long g ok p long q l))
      (λ n live. absurd (omega (arith, live.first, live.flushed)))
      (λ n b live. absurd (omega (arith, live.first, live.flushed)))

  total-empty : (t : ℕ) → total_of (emptied_pages g t g.pages (zeros (stride g))) ≡ 0
  total-empty t =
      let n = stride g in
      let p : List ℕ = zeros n in
      let long : length p ≡ stride g = length-replicate n 0 in
      ap (λ (h : Head). h.total) (laid-emptied g ok t (laid g p long) (page-long g ok p long)).head ∙ word-zero 4 n 8

  pub counted-formatted : (a : Areas) → memory_need g ≤ length a.memory → AllCounted (record { memory = formatted g a.memory; flash = a.flash }) g (λ t. empty)
  counted-formatted a memory_fits t l = rw (formatted-partition g ok a.memory memory_fits t l) (total-empty t ∙ sym (empty-all g))

  pub shows-formatted : (a : Areas) → memory_need g ≤ length a.memory → flash_need g ≤ length a.flash
      → Shows (record { memory = formatted g a.memory; flash = a.flash }) g (λ t. empty)
  shows-formatted a memory_fits flash_fits = record {
    ok = ok;
    geometry = formatted-geometry g ok a.memory memory_fits;
    eighth_zero = formatted-eighth g ok a.memory memory_fits;
    memory_fits = rw length-formatted memory_fits;
    flash_fits = flash_fits;
    part = λ t l. rw (formatted-partition g ok a.memory memory_fits t l) (shows-empty t l a.flash);
  }
