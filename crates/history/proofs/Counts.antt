-- The stronger count: put pages × E, with Q for each entry that the buffers hold, is at most Q × puts.
use Prim.Native.Nat.{ℕ, ◌+◌, ◌*◌, ◌≤◌}
use mathlib.Core.Path.{◌≡◌}
use Rattle.model.specs.Geometry.{partitions, capacity}
use Rattle.model.specs.Partition.{buffer_of}
use Rattle.model.specs.Batch.{entries_of, sum}
use Rattle.model.specs.Answers.{Areas}
use Rattle.model.specs.Calls.{geometry_in, partition_in}
use Rattle.model.proofs.Sums.{sum_same}
use Rattle.history.specs.History.{History}
use Rattle.history.proofs.Credit.{entries_in}
use Rattle.history.proofs.Pages.{page-count}
use Rattle.history.proofs.InStep.{InStep}

-- the entries that all buffer pages count
abbrev pub buffered : Areas → ℕ
buffered a = sum (partitions (geometry_in a)) (λ t. entries_of (buffer_of (geometry_in a) (partition_in a t)) (geometry_in a).pages)

module _ (a : Areas) (h : History) (inv : InStep a h) where
  buffered-shown : buffered a ≡ sum (partitions h.geometry) (λ t. entries_in h.geometry (inv.table t))
  buffered-shown =
      let g = h.geometry in
      rw inv.shows.geometry
      (sum_same (partitions g) _ _ (λ t l. sum_same g.pages _ _ (λ q m. page-count ((inv.shows.part t l).buffer q m))))

  pub strong-count : h.put_pages * capacity h.geometry + h.geometry.pages * buffered a ≤ h.geometry.pages * h.puts
  strong-count = rw buffered-shown inv.good.credit
