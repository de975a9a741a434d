use Rattle.std.proofs.Common.{◌≡◌, ◌+◌, ◌-◌, ◌*◌, ◌≤◌}
use Rattle.model.specs.Partition.{slot}
use Rattle.answers.specs.Told.{as_tally}
use Rattle.lookup.proofs.Reading.{LeftAt}
use Rattle.lookup.proofs.read_through.Given as goal

-- the answer is what the batches from this one on give, and the slot is that of the batch before it; a page has at most 255 entries
abbrev pub invariant-batches : goal.invariant-batches
invariant-batches l = record {
  few : l.head.live ≤ 32;
  flushed : l.head.live ≤ l.head.flushes;
  slotted : l.slot ≡ slot l.g (l.head.flushes - l.age + 1);
  reads : l.tally.reads ≤ l.age;
  comparisons : l.tally.comparisons ≤ 255 * (l.age + 1);
  left : LeftAt l.g l.key l.part l.flash (as_tally l.fn.already) l.head.live l.head.flushes l.age (as_tally l.tally);
}

-- the loop stands where the search of the page stopped
abbrev pub invariant-loop-i : goal.invariant-loop-i
invariant-loop-i l = l.i ≡ l.stop
