-- Each branch does what its plan says, and the plan is what the definitions decide.
use Rattle.std.proofs.Common.{arith}
use Rattle.std.proofs.lemmas.Result.{err_from_is_err_and}
use Rattle.partition.proofs.Lending.{key-whole}
use Rattle.del.proofs.Calling.{refuses, does-nothing, can-remove, removes}
use Rattle.del.proofs.call.Goals as goal

pub decide-requires : goal.decide-requires
decide-requires c = rw c.part_of_key.ensures (key-whole _ _ c.requires.fine c.requires.memory_fits _ (omega arith))

-- what is decided is decided of the key's partition
pub returns-in_err-plan : goal.returns-in_err-plan
returns-in_err-plan c =
    let p = err_from_is_err_and c.from_residual.result c.from_residual.ensures.1 in
    rw (p.1, p.2) (refuses _ _ _ c.requires _ _ (rw c.part_of_key.ensures at c.in_err-plan.ensures))

pub apply_at-requires-clause-listable : goal.apply_at-requires-clause-listable
apply_at-requires-clause-listable c = can-remove _ _ _ c.requires _ _ (rw (c.part_of_key.ensures, c.in-Remove.is) at c.in_ok-plan.ensures)

pub returns-in-Remove : goal.returns-in-Remove
returns-in-Remove c = removes _ _ _ c.requires _ _ _ (rw (c.part_of_key.ensures, c.in-Remove.is) at c.in_ok-plan.ensures) c.apply_at.ensures

pub returns-in_default : goal.returns-in_default
returns-in_default c = does-nothing _ _ _ c.requires _ (omega arith) (rw (c.part_of_key.ensures, c.in_default.is) at c.in_ok-plan.ensures)
