-- A turn empties the buffer of partition t as the definition does at suc t.
use Rattle.std.proofs.Common.{◌≡◌, ◌+◌, add-one, refl, ◌∙◌, arith}
use Rattle.model.specs.Bytes.{within}
use Rattle.model.specs.Geometry.{stride, partition_at}
use Rattle.model.specs.Format.{emptied_pages, emptied_partitions}
use Rattle.model.proofs.Lengths.{length-emptied_pages}
use Rattle.partition.proofs.Lending.{Lent, lends}
use Rattle.format.proofs.empty_partitions.Goals as goal

-- the part of memory that a turn lends is partition t
lent : (c : goal.After-partition_at-a) → let l = c.loop-t in Lent c.args.g l.t l.memory c.partition_at-a.result c.partition_size-size.result
lent c = lends _ _ c.requires.g_value (omega (arith, c.requires.g_in_bounds)) _ (omega arith) _ _ c.partition_at-a.ensures c.partition_size-size.ensures

pub loop-t-init : goal.loop-t-init
unfolding emptied_partitions
loop-t-init c = refl

pub overflow_add-e : goal.overflow_add-e
overflow_add-e c = omega (arith, (lent c).inside)

pub slice_bounds-empty_pages-end : goal.slice_bounds-empty_pages-end
slice_bounds-empty_pages-end c = omega (arith, (lent c).inside)

pub loop-t-preserved : goal.loop-t-preserved
unfolding emptied_partitions
loop-t-preserved c =
    let g = c.args.g in
    let l = c.loop-t in
    let f = emptied_pages g l.t g.pages in
    let w = lends _ _ c.requires.g_value (omega (arith, c.requires.g_in_bounds)) _ (omega arith) _ _ c.partition_at-a.ensures c.partition_size-size.ensures in
    let next : within (partition_at g l.t) (stride g) f l.memory ≡ emptied_partitions g (l.t + 1) c.args.memory.now = rw (l.invariant, add-one l.t) in
    w.back f (length-emptied_pages g l.t g.pages) _ c.empty_pages.ensures ∙ next
