use Rattle.std.proofs.Common.{◌≡◌}
use Rattle.model.specs.Filter.{passes}
use Rattle.model.specs.Partition.{slot_bits}
use Rattle.model.proofs.Bits.{passes_from}
use Rattle.filter.proofs.passes.Given as goal

abbrev pub invariant-loop-i : goal.invariant-loop-i
invariant-loop-i l = passes l.g l.x (slot_bits l.g l.part l.j) ≡ passes_from l.g l.x (slot_bits l.g l.part l.j) l.i
