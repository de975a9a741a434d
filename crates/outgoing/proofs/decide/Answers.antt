-- 16, then what was read of the outgoing batch, then the total: each test is the definition's, in its order.
use Rattle.std.proofs.Common.{sym, ◌∙◌, arith}
use Rattle.std.proofs.lemmas.Result.{err_from_is_err_and}
use Rattle.partition.proofs.Inside.{list_inside}
use Rattle.outgoing.proofs.Deciding.{no_number, no_batch, then_total}
use Rattle.outgoing.proofs.decide.Goals as goal

pub read-head-requires : goal.read-head-requires
read-head-requires c = omega (arith, list_inside _ _ c.requires.whole)

pub returns-then-head : goal.returns-then-head
returns-then-head c = rw c.into.ensures (no_number _ _ _ _ _ _ c.read-head.ensures c.if-head.true)

pub returns-in_err-less : goal.returns-in_err-less
returns-in_err-less c =
    let p = err_from_is_err_and c.from_residual.result c.from_residual.ensures.1 in
    rw (p.1, p.2) (no_batch _ _ _ _ _ _ c.read-head.ensures c.if-head.false _ c.in_err-less.ensures)

pub returns-then-is_total_out : goal.returns-then-is_total_out
returns-then-is_total_out c =
    rw c.into-then-is_total_out.ensures
    (then_total _ _ _ _ _ _ c.read-head.ensures c.if-head.false _ c.in_ok-less.ensures _ (sym c.if-is_total_out.true ∙ c.is_total_out.ensures))

pub returns : goal.returns
returns c = then_total _ _ _ _ _ _ c.read-head.ensures c.if-head.false _ c.in_ok-less.ensures _ (sym c.if-is_total_out.false ∙ c.is_total_out.ensures)
