-- The count of the key's page and its search are the two halves of the definition.
use Rattle.std.proofs.Common.{sym, ◌∙◌}
use Rattle.model.proofs.Sizes.{page-of-lt}
use Rattle.model.proofs.KeyedChecks.{due-room}
use Rattle.put.proofs.Planning.{due_in_full}
use Rattle.put.proofs.is_due.Goals as goal

pub count-requires-clause-q_lt_pages : goal.count-requires-clause-q_lt_pages
count-requires-clause-q_lt_pages c = rw c.page_of-q.ensures (page-of-lt _ c.requires.whole.fine _)

pub returns-then-count-page_capacity : goal.returns-then-count-page_capacity
returns-then-count-page_capacity c =
    let counted = rw c.page_of-q.ensures at c.count.ensures in
    sym (due-room _ _ _ (λ e. c.if-count-page_capacity.true (counted ∙ e ∙ sym c.page_capacity.ensures)))

pub find-requires-clause-q_lt_pages : goal.find-requires-clause-q_lt_pages
find-requires-clause-q_lt_pages c = rw c.page_of-q.ensures (page-of-lt _ c.requires.whole.fine _)

pub returns : goal.returns
returns c =
    let counted = rw c.page_of-q.ensures at c.count.ensures in
    let found = rw c.page_of-q.ensures at c.find.ensures in
    due_in_full _ _ _ (sym counted ∙ c.if-count-page_capacity.false ∙ c.page_capacity.ensures) _ found _ c.is_none.ensures
