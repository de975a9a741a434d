use Rattle.std.proofs.Common.{◌≡◌}
use Rattle.model.specs.Bytes.{within}
use Rattle.model.specs.Geometry.{filter_size}
use Rattle.model.specs.Filter.{with_bits}
use Rattle.filter.proofs.add_key.Given as goal

abbrev pub invariant-loop-bit : goal.invariant-loop-bit
invariant-loop-bit l = l.s ≡ within l.at (filter_size l.g) (with_bits l.g l.x l.bit) l.fn.s
