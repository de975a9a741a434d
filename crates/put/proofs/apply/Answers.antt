use Rattle.std.proofs.lemmas.Result.{err_from_is_err_and}
use Rattle.put.proofs.Calling.{refuses}
use Rattle.put.proofs.apply.Goals as goal

pub returns-in_err-plan : goal.returns-in_err-plan
returns-in_err-plan c =
    let p = err_from_is_err_and c.from_residual.result c.from_residual.ensures.1 in
    rw (p.1, p.2) (refuses _ _ _ c.requires.table _ _ _ (rw c.in_err-plan.was at c.requires.plan_value))
