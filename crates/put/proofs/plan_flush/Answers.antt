-- What leaves with the flush decides.
use Rattle.std.proofs.Common.{arith}
use Rattle.std.proofs.lemmas.Result.{err_from_is_err_and}
use Rattle.model.proofs.Checks.{key_fits}
use Rattle.model.proofs.Sizes.{partition-of-lt}
use Rattle.put.proofs.Planning.{flush-plan}
use Rattle.put.proofs.plan_flush.Goals as goal

pub decide-requires-clause-part_value : goal.decide-requires-clause-part_value
decide-requires-clause-part_value c = (key_fits _ _ _ c.requires.part_value).0

pub decide-requires-clause-t_bound : goal.decide-requires-clause-t_bound
decide-requires-clause-t_bound c = rw c.partition_of.ensures (partition-of-lt _ c.requires.whole.fine _ (omega arith))

pub returns-in_err-less : goal.returns-in_err-less
returns-in_err-less c =
    let p = err_from_is_err_and c.from_residual.result c.from_residual.ensures.1 in
    rw (p.1, p.2) (flush-plan _ _ _ _ _ (rw c.partition_of.ensures at c.in_err-less.ensures))

pub returns : goal.returns
returns c = flush-plan _ _ _ _ _ (rw c.partition_of.ensures at c.in_ok-less.ensures)
