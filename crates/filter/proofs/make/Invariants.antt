use Rattle.std.proofs.Common.{◌≡◌}
use Rattle.model.specs.Bytes.{within}
use Rattle.model.specs.Geometry.{filter_size}
use Rattle.model.specs.Filter.{with_pages}
use Rattle.model.specs.Partition.{buffer_of}
use Rattle.filter.proofs.make.Given as goal

-- from the loop's start on, where the filter is zero
abbrev pub invariant-loop-q : goal.invariant-loop-q
invariant-loop-q l = l.part ≡ within l.at (filter_size l.g) (with_pages l.g (buffer_of l.g l.initial.part) l.q) l.initial.part
