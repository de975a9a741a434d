-- Each branch's test says which case of the definition holds.
use Rattle.std.proofs.Common.{arith, rules}
use borrow.Author.Tests.{le-leb, lt-leb}
use Rattle.model.specs.Page.{count_of}
use Rattle.model.proofs.Words.{word_lt}
use Rattle.page_reader.specs.Steps.{step_at}
use Rattle.page_reader.proofs.step_at.Goals as goal

pub returns-then-count-place-clause-step : goal.returns-then-count-place-clause-step
unfolding step_at
returns-then-count-place-clause-step c = let a = c.args in rw (lt-leb a.place (count_of a.page.now) (omega arith))

pub returns-clause-step : goal.returns-clause-step
unfolding step_at
returns-clause-step c = let a = c.args in rw (le-leb a.place (count_of a.page.now) (omega arith), c.u64_at.ensures, c.value_at.ensures)

pub returns-clause-small : goal.returns-clause-small
returns-clause-small c = let small = word_lt 2 c.args.page.now 0 (λ i. search rules) in omega (arith, small)
