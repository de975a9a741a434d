-- A move down and a zero are what closing up comes to where one record leaves.
use Rattle.model.proofs.Closing.{closed_up-one}
use mathlib.Core.Path.{sym, ◌∙◌}
use native.Mathlib.Omega.{arith}
use borrow.Author.Rules.{rules}
use Rattle.records.proofs.remove.Statement.{statement}
use Rattle.records.proofs.remove.Tie as tie

returns : tie.Need-returns
returns c = sym (closed_up-one _ _ _ (omega arith) (omega arith) _ (omega arith) ∙ (cc))

pub remove_spec : {M : Type 1} → statement M
remove_spec = tie.close (tie.spec (λ c. search rules) (λ c. search rules) (λ c. search rules) (λ c. search rules) (λ c. search rules) (λ c. search rules) (λ c. search rules) (λ c κs. search rules) (λ c. search rules) (λ c κs. search rules) (λ c. search rules) returns)
