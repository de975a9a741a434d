-- A turn writes page q and empties it, as the definitions do at q + 1.
use Rattle.std.proofs.Common.{◌≡◌, sym, arith}
use Rattle.model.proofs.Parts.{within-id}
use Rattle.model.proofs.Partitions.{emptied-none}
use Rattle.model.proofs.PartitionsFlash.{batch-none}
use Rattle.partition.proofs.Lending.{partition-inside}
use Rattle.flushing.proofs.Moving.{same_number, page_moved, page-emptied}
use Rattle.flushing.proofs.move_batch.Goals as goal

pub loop-q-init : goal.loop-q-init
loop-q-init c =
    let r = c.requires in
    record {
      emptied = sym (within-id _ _ _ _ (partition-inside _ _ r.g_value r.g_in_bounds _ r.t_bound) (emptied-none _ _ _));
      written = sym (batch-none _ _ _ _);
    }

pub write-requires : goal.write-requires
write-requires c =
    let r = c.requires in
    let long = c.loop-q.auto in
    record {
      fine = r.g_value;
      memory_fits = omega (arith, r.g_in_bounds, long.memory);
      flash_fits = omega (arith, r.g_in_bounds_2, long.flash);
      partition_below = r.t_bound;
      page_below = c.loop-q-test.true;
      number_next = omega (arith, r.n_value, same_number _ _ r.g_value r.g_in_bounds _ r.t_bound _ c.loop-q.invariant.emptied);
    }

pub loop-q-preserved : goal.loop-q-preserved
loop-q-preserved c =
    let r = c.requires in
    let was = c.loop-q.invariant in
    record {
      emptied = page-emptied _ _ r.g_value r.g_in_bounds _ r.t_bound _ was.emptied c.empty_page_at.ensures;
      written = page_moved _ _ r.g_value r.g_in_bounds _ r.t_bound _ was.emptied c.loop-q-test.true _ was.written c.write.ensures;
    }

pub returns : goal.returns
returns c =
    let was = c.loop-q.invariant in
    let all : c.loop-q.q ≡ c.args.g.pages = omega (arith, c.loop-q.auto.q-end, c.loop-q-test.false) in
    (rw all at was.emptied, rw all at was.written)
