-- The page count is a power of two, so the mask takes the remainder.
use borrow.Author.Rules.{rules}
use Rattle.model.specs.Keys.{page_of}
use Rattle.model.proofs.Powers.{mask}
use Rattle.model.proofs.Sizes.{sizes}
use Rattle.keys.proofs.page_of.Statement.{statement}
use Rattle.keys.proofs.page_of.Tie as tie

sub-result : tie.Need-overflow_sub-result
sub-result c = (sizes _ c.requires).pages-min

returns : tie.Need-returns
unfolding page_of
returns c = rw (← c.mix-x.ensures) (mask 0 6 _ _ (sizes _ c.requires).pages-test)

pub page_of_spec : {M : Type 1} → statement M
page_of_spec = tie.close (tie.spec (λ c. search rules) (λ c. search rules) sub-result returns)
