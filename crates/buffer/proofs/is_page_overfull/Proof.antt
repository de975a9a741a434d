-- Both sides of the test are the definition's.
use borrow.Author.Rules.{rules}
use Rattle.model.specs.Refusals.{page_overfull}
use Rattle.buffer.proofs.is_page_overfull.Statement.{statement}
use Rattle.buffer.proofs.is_page_overfull.Tie as tie

returns : tie.Need-returns
unfolding page_overfull
returns c = rw (c.count.ensures, c.page_capacity.ensures)

pub is_page_overfull_spec : {M : Type 1} → statement M
is_page_overfull_spec = tie.close (tie.spec (λ c κs. search rules) (λ c κs. search rules) returns)
