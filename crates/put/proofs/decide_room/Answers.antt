-- Each test is the definition's, in its order.
use Rattle.std.proofs.Common.{sym, ◌∙◌}
use Rattle.put.proofs.Planning.{over, not-due, some-over, flush-first}
use Rattle.put.proofs.decide_room.Goals as goal

pub returns-then-is_key_overfull : goal.returns-then-is_key_overfull
returns-then-is_key_overfull c = rw c.into.ensures (over _ _ _ _ (sym c.is_key_overfull.ensures ∙ c.if-is_key_overfull.true))

pub returns-then-not-due : goal.returns-then-not-due
returns-then-not-due c =
    c.plan_store.ensures ∙ not-due _ _ _ _ (sym c.is_key_overfull.ensures ∙ c.if-is_key_overfull.false) (sym c.is_due-due.ensures ∙ c.if-not-due.true)

pub returns-then-is_some_page_overfull : goal.returns-then-is_some_page_overfull
returns-then-is_some_page_overfull c =
    let fits = sym c.is_key_overfull.ensures ∙ c.if-is_key_overfull.false in
    let is-due = sym c.is_due-due.ensures ∙ c.if-not-due.false in
    rw c.into-then-is_some_page_overfull.ensures (some-over _ _ _ _ fits is-due (sym c.is_some_page_overfull.ensures ∙ c.if-is_some_page_overfull.true))

pub returns : goal.returns
returns c =
    let fits = sym c.is_key_overfull.ensures ∙ c.if-is_key_overfull.false in
    let is-due = sym c.is_due-due.ensures ∙ c.if-not-due.false in
    c.plan_flush.ensures ∙ flush-first _ _ _ _ fits is-due (sym c.is_some_page_overfull.ensures ∙ c.if-is_some_page_overfull.false)
