use Rattle.std.proofs.Common.{arith, sym, ◌∙◌, ap}
use native.Mathlib.Nat.{sub-zero}
use Rattle.model.specs.Search.{is_some}
use Rattle.model.specs.Refusals.{some_page_overfull}
use Rattle.model.proofs.Searching.{first-here, first_next, first-end}
use Rattle.buffer.proofs.is_some_page_overfull.Goals as goal

pub loop-q-init : goal.loop-q-init
unfolding some_page_overfull
loop-q-init c = rw sub-zero

pub returns-then-is_page_overfull : goal.returns-then-is_page_overfull
returns-then-is_page_overfull c = sym (c.loop-q.invariant ∙ ap is_some (first-here _ _ _ (omega arith) (sym c.is_page_overfull.ensures ∙ c.if-is_page_overfull.true)))

pub loop-q-preserved : goal.loop-q-preserved
loop-q-preserved c = c.loop-q.invariant ∙ ap is_some (first_next _ _ _ (omega arith) (sym c.is_page_overfull.ensures ∙ c.if-is_page_overfull.false))

pub returns : goal.returns
returns c = sym (c.loop-q.invariant ∙ ap is_some (first-end _ _ _ (omega arith)))
