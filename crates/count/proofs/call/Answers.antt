-- The refusals are the checks' own, and what is told is the total of the head that they tested.
use Rattle.std.proofs.Common.{◌<◌, ◌≤◌, sym, ◌∙◌, ap, arith}
use Rattle.model.specs.Geometry.{partitions}
use Rattle.model.specs.Partition.{Head}
use Rattle.model.specs.Answers.{unread, done}
use Rattle.model.proofs.Checks.{count-4, count-12, count-passes}
use Rattle.model.proofs.Calls.{checks-count, result_count, effect-count}
use Rattle.answers.proofs.Performing.{refusing, looking}
use Rattle.partition.proofs.Inside.{list_inside}
use Rattle.partition.proofs.Lending.{partition-whole}
use Rattle.count.proofs.call.Goals as goal

pub returns-then-partition_count-t : goal.returns-then-partition_count-t
returns-then-partition_count-t c =
    let w = c.requires in
    let h : partitions c.args.g ≤ c.args.t = omega arith in
    rw c.into.ensures (refusing _ _ _ (unread 4) (checks-count _ _ w.own w.opens _ ∙ count-4 _ _ _ h))

pub read-head-requires : goal.read-head-requires
read-head-requires c =
    let w = c.requires in
    let below : c.args.t < partitions c.args.g = omega arith in
    rw c.part_of.ensures (omega (arith, list_inside _ _ (partition-whole _ c.args.memory.now w.fine w.memory_fits _ below)))

pub returns-then-is_overfull : goal.returns-then-is_overfull
returns-then-is_overfull c =
    let w = c.requires in
    let below : c.args.t < partitions c.args.g = omega arith in
    let full = rw (c.read-head.ensures, c.part_of.ensures) at (sym c.is_overfull.ensures ∙ c.if-is_overfull.true) in
    rw c.into-then-is_overfull.ensures (refusing _ _ _ (unread 12) (checks-count _ _ w.own w.opens _ ∙ count-12 _ _ _ below full))

pub returns : goal.returns
returns c =
    let w = c.requires in
    let below : c.args.t < partitions c.args.g = omega arith in
    let fits = rw (c.read-head.ensures, c.part_of.ensures) at (sym c.is_overfull.ensures ∙ c.if-is_overfull.false) in
    looking _ _ _ _ (checks-count _ _ w.own w.opens _ ∙ count-passes _ _ _ below fits) (result_count _ _ w.own _)
    (ap (λ (h : Head). done h.total) (rw c.part_of.ensures at c.read-head.ensures)) (effect-count _ _)
