-- Each answer is that of the definitions on an opened table; what the checks leave possible, the flush does as they say.
use Rattle.std.proofs.Common.{◌∙◌, arith, rules}
use Rattle.std.proofs.lemmas.Result.{err_from_is_err_and}
use Rattle.model.proofs.Checks.{flush-4}
use Rattle.model.proofs.Calls.{checks-flush}
use Rattle.answers.proofs.Performing.{refusing}
use Rattle.partition.proofs.Lending.{partition-whole}
use Rattle.flush.proofs.Calling.{refuses, can-flush, can-lower, flushes}
use Rattle.flush.proofs.call.Goals as goal

-- ---- no such partition
pub returns-then-partition_count-t : goal.returns-then-partition_count-t
returns-then-partition_count-t c =
    rw c.into.ensures
    (refusing _ _ _ _ (checks-flush _ _ c.requires.own c.requires.opens _ ∙ flush-4 _ _ _ _ (omega (arith, c.if-partition_count-t.true, c.partition_count.ensures))))

-- ---- what is decided is decided of the partition
pub decide-requires-clause-whole : goal.decide-requires-clause-whole
decide-requires-clause-whole c =
    let r = c.requires in
    rw c.part_of.ensures (partition-whole _ _ r.fine r.memory_fits _ (omega (arith, c.if-partition_count-t.false, c.partition_count.ensures)))

pub returns-in_err-less : goal.returns-in_err-less
returns-in_err-less c =
    let p = err_from_is_err_and c.from_residual.result c.from_residual.ensures.1 in
    rw (p.1, p.2) (refuses _ _ _ c.requires _ _ (rw c.part_of.ensures at c.in_err-less.ensures))

-- ---- what the checks leave possible
pub apply_at-requires-clause-flushable : goal.apply_at-requires-clause-flushable
apply_at-requires-clause-flushable c =
    can-flush _ _ _ c.requires _ (omega (arith, c.if-partition_count-t.false, c.partition_count.ensures)) (λ i. search rules) _ (rw c.part_of.ensures at c.in_ok-less.ensures)

pub apply_at-requires-clause-less_bound : goal.apply_at-requires-clause-less_bound
apply_at-requires-clause-less_bound c =
    can-lower _ _ _ c.requires _ (omega (arith, c.if-partition_count-t.false, c.partition_count.ensures)) (λ i. search rules) _ (rw c.part_of.ensures at c.in_ok-less.ensures)

pub returns : goal.returns
returns c =
    flushes _ _ _ c.requires _ (omega (arith, c.if-partition_count-t.false, c.partition_count.ensures)) (λ i. search rules) _ (rw c.part_of.ensures at c.in_ok-less.ensures) _ _ c.apply_at.ensures.0 c.apply_at.ensures.1
