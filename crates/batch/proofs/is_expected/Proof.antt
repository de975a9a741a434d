-- The five tests are those of `expected`.
use Rattle.model.specs.Page.{expected}
use borrow.Author.Rules.{rules}
use Rattle.batch.proofs.is_expected.Statement.{statement}
use Rattle.batch.proofs.is_expected.Tie as tie

returns : tie.Need-returns
unfolding expected
returns c = cc

pub is_expected_spec : {M : Type 1} → statement M
is_expected_spec = tie.close (tie.spec (λ c. search rules) (λ c κs. search rules) (λ c. search rules) (λ c κs. search rules) (λ c. search rules) (λ c κs. search rules) (λ c. search rules) (λ c κs. search rules) (λ c κs. search rules) returns)
