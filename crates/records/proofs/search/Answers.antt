use Rattle.std.proofs.Common.{arith, sym, ◌∙◌}
use borrow.Author.Tests.{eq-eqb, ne_eqb}
use Rattle.model.proofs.Searching.{first-here, first_next, first-end}
use Rattle.records.proofs.Blocks.{search-behind}
use Rattle.records.proofs.search.Goals as goal

pub loop-i-init : goal.loop-i-init
loop-i-init c = search-behind _ _ _ _ _ c.skip.ensures

pub returns-then-u64_at-key : goal.returns-then-u64_at-key
returns-then-u64_at-key c = sym (c.loop-i.invariant ∙ first-here _ _ _ (omega arith) (eq-eqb _ _ (sym c.u64_at.ensures ∙ c.if-u64_at-key.true)))

pub loop-i-preserved : goal.loop-i-preserved
loop-i-preserved c = c.loop-i.invariant ∙ first_next _ _ _ (omega arith) (ne_eqb _ _ (λ e. c.if-u64_at-key.false (c.u64_at.ensures ∙ e)))

pub returns : goal.returns
returns c = sym (c.loop-i.invariant ∙ first-end _ _ _ (omega arith))
