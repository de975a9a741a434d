-- After q turns the first q pages are written and emptied.
use Rattle.std.proofs.Common.{◌≡◌}
use Rattle.model.specs.Bytes.{within}
use Rattle.model.specs.Geometry.{stride, partition_at}
use Rattle.model.specs.Partition.{partition}
use Rattle.model.specs.Format.{emptied_pages}
use Rattle.model.specs.Flush.{with_batch}
use Rattle.flushing.proofs.move_batch.Given as goal

abbrev pub invariant-loop-q : goal.invariant-loop-q
invariant-loop-q l = record {
  emptied : l.memory ≡ within (partition_at l.g l.t) (stride l.g) (emptied_pages l.g l.t l.q) l.fn.memory;
  written : l.flash ≡ with_batch l.g l.t (partition l.g l.t l.fn.memory) l.q l.fn.flash;
}
