-- Each test is the definition's, in its order; the heads are those of the oldest live batch.
use Rattle.std.proofs.Common.{sym, ◌∙◌, arith}
use Rattle.std.proofs.lemmas.Result.{err_from_is_err_and}
use Rattle.model.proofs.Heads.{head-fits}
use Rattle.partition.proofs.Inside.{list_inside}
use Rattle.drop.proofs.Deciding.{over, none_live, no_batch, then_total}
use Rattle.drop.proofs.decide.Goals as goal

pub read-head-requires : goal.read-head-requires
read-head-requires c = omega (arith, list_inside _ _ c.requires.whole)

pub returns-then-is_overfull : goal.returns-then-is_overfull
returns-then-is_overfull c = rw c.into.ensures (over _ _ _ _ c.requires.t_bound _ c.read-head.ensures (sym c.is_overfull.ensures ∙ c.if-is_overfull.true))

pub returns-then-head-eq0 : goal.returns-then-head-eq0
returns-then-head-eq0 c =
    let fits = sym c.is_overfull.ensures ∙ c.if-is_overfull.false in
    rw c.into-then-head-eq0.ensures (none_live _ _ _ _ c.requires.t_bound _ c.read-head.ensures fits c.if-head-eq0.true)

pub overflow_sub-oldest : goal.overflow_sub-oldest
overflow_sub-oldest c = omega (arith, (head-fits _ _ (sym c.is_overfull.ensures ∙ c.if-is_overfull.false)).flushed)

pub returns-in_err-less : goal.returns-in_err-less
returns-in_err-less c =
    let fits = sym c.is_overfull.ensures ∙ c.if-is_overfull.false in
    let p = err_from_is_err_and c.from_residual.result c.from_residual.ensures.1 in
    rw (p.1, p.2) (no_batch _ _ _ _ c.requires.t_bound _ c.read-head.ensures fits c.if-head-eq0.false _ c.in_err-less.ensures)

pub returns-then-is_total_out : goal.returns-then-is_total_out
returns-then-is_total_out c =
    let fits = sym c.is_overfull.ensures ∙ c.if-is_overfull.false in
    let out = sym c.if-is_total_out.true ∙ c.is_total_out.ensures in
    rw c.into-then-is_total_out.ensures (then_total _ _ _ _ c.requires.t_bound _ c.read-head.ensures fits c.if-head-eq0.false _ c.in_ok-less.ensures _ out)

pub returns : goal.returns
returns c =
    let fits = sym c.is_overfull.ensures ∙ c.if-is_overfull.false in
    let out = sym c.if-is_total_out.false ∙ c.is_total_out.ensures in
    then_total _ _ _ _ c.requires.t_bound _ c.read-head.ensures fits c.if-head-eq0.false _ c.in_ok-less.ensures _ out
