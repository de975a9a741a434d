-- A page that is set whole with zeros is a list of zeros.
use Rattle.model.specs.Page.{emptied}
use Rattle.model.proofs.Parts.{sets-all}
use lib.ListN.{length, replicate, length-replicate}
use borrow.Author.Rules.{rules}
use Rattle.page.proofs.empty.Statement.{statement}
use Rattle.page.proofs.empty.Tie as tie

returns : tie.Need-returns
unfolding emptied
returns c = let a = c.args in cc (sets-all a.page.now (replicate (length a.page.now) 0) (length-replicate _ _))

pub empty_spec : {M : Type 1} → statement M
empty_spec = tie.close (tie.spec (λ c κs. search rules) (λ c κs. search rules) (λ c κs. search rules) (λ c. search rules) returns)
