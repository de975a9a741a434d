-- A number out of its bounds is refused by the bounds of all allowed ones.
use mathlib.Core.Bool.{false≢true}
use mathlib.Core.Path.{sym, ◌∙◌}
use native.Mathlib.Omega.{arith}
use borrow.Author.Rules.{rules}
use Rattle.model.proofs.Sizes.{disallowed, allowed-by-bits}
use Rattle.geometry.proofs.is_allowed.Statement.{statement}
use Rattle.geometry.proofs.is_allowed.Tie as tie

refuse-page : tie.Need-returns-then-not-is_power
refuse-page c = disallowed _ (λ z. false≢true (sym c.if-not-is_power.true ∙ c.is_power.ensures ∙ z.page-test))

refuse-pages : tie.Need-returns-then-not-is_power-2
refuse-pages c = disallowed _ (λ z. false≢true (sym c.if-not-is_power-2.true ∙ c.is_power-2.ensures ∙ z.pages-test))

returns-10 : tie.Need-returns
returns-10 c = c.is_power-3.ensures ∙ sym (allowed-by-bits _ (omega arith) (sym c.is_power.ensures ∙ c.if-not-is_power.false) (sym c.is_power-2.ensures ∙ c.if-not-is_power-2.false) (omega arith) (omega arith) (omega arith) (omega arith) (omega arith) (omega arith))

pub is_allowed_spec : {M : Type 1} → statement M
is_allowed_spec = tie.close (tie.spec (λ c. disallowed _ (λ z. omega arith)) (λ c. disallowed _ (λ z. omega arith)) (λ c. disallowed _ (λ z. omega arith)) (λ c. disallowed _ (λ z. omega arith)) (λ c. disallowed _ (λ z. omega arith)) (λ c. disallowed _ (λ z. omega arith)) (λ c. disallowed _ (λ z. omega arith)) (λ c κs. search rules) refuse-page (λ c κs. search rules) refuse-pages (λ c κs. search rules) returns-10)
