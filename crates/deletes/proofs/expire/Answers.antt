use Rattle.std.proofs.Common.{◌≡◌, ◌+◌, refl, ◌∙◌, arith}
use borrow.Author.Tests.{eq-eqb, ne_eqb}
use Rattle.model.specs.DeleteList.{stamp_at, expiring, expired, unexpired}
use Rattle.model.proofs.Closing.{Closed, closed_none, closed-le, closed-length, closed-word, closed-gone, closed-kept, closed-end}
use Rattle.deletes.proofs.expire.Goals.{then-stamp-back, else-stamp-back}
use Rattle.deletes.proofs.expire.Goals as goal

pub loop-i-init : goal.loop-i-init
loop-i-init c = record { behind = omega arith; same_length = refl; closed = closed_none _ _ }

pub loop-i-preserved : goal.loop-i-preserved
loop-i-preserved c =
    let a = c.args in
    let i = c.loop-i.i in
    let was = c.loop-i.invariant.closed in
    -- the stamp that is read is that of the list at the start
    let stamp : c.u32_at-stamp.result ≡ stamp_at a.list.now i = c.u32_at-stamp.ensures ∙ closed-word was (omega arith) 4 _ (omega arith) in
    let closed : Closed (expiring a.back a.flushes a.list.now) (i + 1) a.list.now c.if-stamp-back.list c.if-stamp-back.stay =
    elim c.if-stamp-back.branch [
      | then-stamp-back w ↦ rw (w.list-is ∙ w.move_down.ensures, w.stay-is) (closed-kept was (ne_eqb _ _ (λ e. w.if-stamp-back.true (rw stamp e))) (omega arith))
      | else-stamp-back w ↦ rw (w.list-is, w.stay-is) (closed-gone was (eq-eqb _ _ (rw stamp at w.if-stamp-back.false)))
    ] in
    record { behind = closed-le closed; same_length = closed-length closed; closed = closed }

pub returns : goal.returns
unfolding expired unexpired
returns c =
    let e : c.loop-i.i ≡ c.args.n = omega arith in
    let closed = rw e at c.loop-i.invariant.closed in
    (c.zero.ensures ∙ closed-end closed (omega arith), closed.stay)
