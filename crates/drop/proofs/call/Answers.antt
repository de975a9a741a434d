-- Each answer is that of the definitions on an opened table; what the checks leave possible, the drop does as they say.
use Rattle.std.proofs.Common.{◌∙◌, arith}
use Rattle.std.proofs.lemmas.Result.{err_from_is_err_and}
use Rattle.model.proofs.Checks.{drop-4}
use Rattle.model.proofs.Calls.{checks-drop}
use Rattle.answers.proofs.Performing.{refusing}
use Rattle.partition.proofs.Lending.{partition-whole}
use Rattle.drop.proofs.Calling.{refuses, can-drop, drops}
use Rattle.drop.proofs.call.Goals as goal

-- ---- no such partition
pub returns-then-partition_count-t : goal.returns-then-partition_count-t
returns-then-partition_count-t c =
    rw c.into.ensures
    (refusing _ _ _ _ (checks-drop _ _ c.requires.own c.requires.opens _ ∙ drop-4 _ _ _ _ (omega (arith, c.if-partition_count-t.true, c.partition_count.ensures))))

-- ---- what is decided is decided of the partition
pub decide-requires-clause-whole : goal.decide-requires-clause-whole
decide-requires-clause-whole c =
    let r = c.requires in
    rw c.part_of.ensures (partition-whole _ _ r.fine r.memory_fits _ (omega (arith, c.if-partition_count-t.false, c.partition_count.ensures)))

pub returns-in_err-less : goal.returns-in_err-less
returns-in_err-less c =
    let p = err_from_is_err_and c.from_residual.result c.from_residual.ensures.1 in
    rw (p.1, p.2) (refuses _ _ _ c.requires _ _ (rw c.part_of.ensures at c.in_err-less.ensures))

pub apply_at-requires-clause-droppable : goal.apply_at-requires-clause-droppable
apply_at-requires-clause-droppable c = can-drop _ _ _ c.requires _ _ (rw c.part_of.ensures at c.in_ok-less.ensures)

pub returns : goal.returns
returns c = drops _ _ _ c.requires _ _ (rw c.part_of.ensures at c.in_ok-less.ensures) _ c.apply_at.ensures
