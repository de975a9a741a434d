-- A page of the buffer lies in the partition, one of a live batch in flash, where the definition says.
use Rattle.std.proofs.Common.{arith}
use Rattle.model.specs.Partition.{slot}
use Rattle.model.proofs.Heads.{live-bounds}
use Rattle.model.proofs.Sizes.{slot_lt, slot-is-lt, slot-page-fits, flash-max, stride-max}
use Rattle.partition.proofs.Inside.{page-inside}
use Rattle.sources.proofs.Sources.{batch-inside}
use Rattle.sources.proofs.page_at.Goals as goal

-- ---- a page of the buffer
pub overflow_add-e : goal.overflow_add-e
overflow_add-e c =
    let w = c.requires.readable.whole in
    omega (arith, page-inside _ _ w c.args.spot.page c.requires.below, w.long, stride-max _ w.fine)

pub slice_bounds-result-end : goal.slice_bounds-result-end
slice_bounds-result-end c = omega (arith, page-inside _ _ c.requires.readable.whole c.args.spot.page c.requires.below)

-- ---- a page of a batch, which is live
pub slot_of-requires-clause-le_n : goal.slot_of-requires-clause-le_n
slot_of-requires-clause-le_n c = omega (arith, live-bounds _ _ (rw c.in-Batch.is at c.requires.source))

pub slot_page_at-a-requires-clause-j_lt_kept : goal.slot_page_at-a-requires-clause-j_lt_kept
slot_page_at-a-requires-clause-j_lt_kept c = slot-is-lt _ c.requires.readable.whole.fine _ c.slot_of.ensures

pub overflow_add-e-in-Batch : goal.overflow_add-e-in-Batch
overflow_add-e-in-Batch c =
    let a = c.args in
    let r = c.requires.readable in
    let ok = r.whole.fine in
    let here = rw c.slot_of.ensures at c.slot_page_at-a.ensures in
    omega (arith, here, slot-page-fits a.g a.spot.partition (slot a.g c.in-Batch.n) a.spot.page r.below (slot_lt _ ok _) c.requires.below, flash-max _ ok)

pub slice_bounds-result-end-in-Batch : goal.slice_bounds-result-end-in-Batch
slice_bounds-result-end-in-Batch c =
    let here = rw c.slot_of.ensures at c.slot_page_at-a.ensures in
    omega (arith, here, batch-inside _ _ _ _ c.requires.readable c.in-Batch.n c.args.spot.page c.requires.below)
