use Rattle.std.proofs.Common.{◌≡◌, ◌-◌, sym, ◌∙◌, arith}
use Rattle.model.specs.Partition.{slot, batch_passes}
use Rattle.model.proofs.Heads.{head-fits}
use Rattle.model.proofs.Passing.{batch-asked}
use Rattle.model.proofs.Sizes.{sizes, slot-is-lt}
use Rattle.head.proofs.Fields.{flushes-is, live-is}
use Rattle.partition.proofs.Inside.{list_inside}
use Rattle.geometry.proofs.Slots.{slot-start, slot-next}
use Rattle.del.proofs.Stamping.{stamp-all, stamp-none, stamp-here, stamp-skip}
use Rattle.del.proofs.stamp_for.Goals as goal
use Rattle.del.proofs.stamp_for.Goals.{After-slot_before-slot, After-passes}

pub read-head-requires : goal.read-head-requires
read-head-requires c = omega (arith, list_inside _ _ c.requires.whole)

pub nonzero_rem-slot : goal.nonzero_rem-slot
nonzero_rem-slot c = let z = sizes _ c.requires.whole.fine in omega arith

-- the head is the partition's, and its live number fits
pub loop-age-init : goal.loop-age-init
loop-age-init c =
    let h = head-fits _ _ c.requires.part_value in
    let f = flushes-is c.read-head.ensures in
    let l = live-is c.read-head.ensures in
    record { flushed = omega (arith, h); slotted = slot-start c.args.g _; left = stamp-all _ _ _ _ _ l f }

-- the slot is that of the turn's batch
slotted : (c : After-slot_before-slot) → c.slot_before-slot.result ≡ slot c.args.g (c.read-head.result.flushes - c.loop-age.age)
slotted c = c.slot_before-slot.ensures _ (omega arith) c.loop-age.invariant.slotted

pub passes-requires-clause-j_lt_kept : goal.passes-requires-clause-j_lt_kept
passes-requires-clause-j_lt_kept c = slot-is-lt _ c.requires.whole.fine _ (slotted c)

-- and so is the filter that is tested
tested : (c : After-passes) → let a = c.args in batch_passes a.g a.key a.part.now (c.read-head.result.flushes - c.loop-age.age) ≡ c.passes.result
tested c = batch-asked _ _ _ _ ∙ rw (c.passes.ensures, c.mix-x.ensures, c.slot_before-slot.ensures (c.read-head.result.flushes - c.loop-age.age) (omega arith) c.loop-age.invariant.slotted)

pub returns-then-passes : goal.returns-then-passes
returns-then-passes c = let at = goal.at.returns-then-passes c in sym (stamp-here _ _ _ _ _ _ c.loop-age.invariant.left (omega arith) (tested at.After-passes ∙ c.if-passes.true))

pub loop-age-preserved : goal.loop-age-preserved
loop-age-preserved c =
    let at = goal.at.loop-age-preserved c in
    record {
      flushed = omega arith;
      slotted = slotted at.After-slot_before-slot ∙ slot-next c.args.g _ _ (omega arith);
      left = stamp-skip _ _ _ _ _ _ c.loop-age.invariant.left (omega arith) (tested at.After-passes ∙ c.if-passes.false);
    }

pub returns : goal.returns
returns c = sym (stamp-none _ _ _ _ _ _ c.loop-age.invariant.left (omega arith))
