-- Each test is the definition's, in its order.
use Rattle.std.proofs.Common.{sym, ◌∙◌, ap}
use Rattle.model.specs.Search.{is_some}
use Rattle.model.proofs.Checks.{key_fits}
use Rattle.del.proofs.Planning.{over, already, not_yet}
use Rattle.del.proofs.decide.Goals as goal

pub returns-then-is_key_overfull : goal.returns-then-is_key_overfull
returns-then-is_key_overfull c = sym (over _ _ _ (sym c.is_key_overfull.ensures ∙ c.if-is_key_overfull.true))

pub find-requires-clause-part_value : goal.find-requires-clause-part_value
find-requires-clause-part_value c = (key_fits _ _ _ (sym c.is_key_overfull.ensures ∙ c.if-is_key_overfull.false)).0

pub returns-in-Some : goal.returns-in-Some
returns-in-Some c = sym (already _ _ _ (sym c.is_key_overfull.ensures ∙ c.if-is_key_overfull.false) (ap is_some (sym c.in-Some.ensures)))

pub returns-in-None : goal.returns-in-None
returns-in-None c = c.plan_listing.ensures ∙ sym (not_yet _ _ _ (sym c.is_key_overfull.ensures ∙ c.if-is_key_overfull.false) (ap is_some (sym c.in-None.ensures)))
