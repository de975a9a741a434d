-- The buffers of the first t partitions are emptied.
use Rattle.std.proofs.Common.{◌≡◌}
use Rattle.model.specs.Format.{emptied_partitions}
use Rattle.format.proofs.empty_partitions.Given as goal

abbrev pub invariant-loop-t : goal.invariant-loop-t
invariant-loop-t l = l.memory ≡ emptied_partitions l.g l.t l.fn.memory
