use Rattle.std.proofs.Common.{◌≡◌, ◌+◌, ◌-◌, ◌≤◌}
use Rattle.model.specs.Partition.{slot}
use Rattle.del.proofs.Stamping.{StampAt}
use Rattle.del.proofs.stamp_for.Given as goal

-- the stamp is that of the batches from this one on, and the slot that of the batch before it
abbrev pub invariant-loop-age : goal.invariant-loop-age
invariant-loop-age l = record {
  flushed : l.head.live ≤ l.head.flushes;
  slotted : l.slot ≡ slot l.g (l.head.flushes - l.age + 1);
  left : StampAt l.g l.key l.part l.head.live l.head.flushes l.age;
}
