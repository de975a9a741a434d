-- The answer is at all times the answer from the i-th live batch on.
use Rattle.std.proofs.Common.{◌≡◌, ◌-◌}
use Rattle.model.specs.Search.{first_from, is_some}
use Rattle.model.specs.Partition.{head_of, live_of}
use Rattle.model.specs.Batch.{failed_page}
use Rattle.model.specs.PartitionText.{live_batch, some_batch_fails}
use Rattle.sources.proofs.is_some_failed.Given as goal

abbrev pub invariant-loop-i : goal.invariant-loop-i
invariant-loop-i l = some_batch_fails l.g l.t l.part l.flash ≡ is_some (first_from (live_of l.part - l.i) l.i (λ i. is_some (failed_page l.g l.t l.flash (live_batch (head_of l.part) i))))
