-- The search through the filters gives the stamp, and the head's count tells whether a place is left.
use Rattle.std.proofs.Common.{◌≡◌, sym, ◌∙◌, arith}
use Rattle.std.specs.Prelude.{is_some}
use Rattle.model.specs.Del.{stamp_for}
use Rattle.model.proofs.Checks.{key_fits}
use Rattle.head.proofs.Fields.{listed-is}
use Rattle.partition.proofs.Inside.{list_inside}
use Rattle.del.specs.Plans.{plan_removal, plan_listing}
use Rattle.del.proofs.Planning.{nowhere, last-taken, last-free}
use Rattle.del.proofs.plan_listing.Goals as goal
use Rattle.del.proofs.plan_listing.Goals.{After-is_some, else-is_some-via-then-is_some+else-read-g, else-is_some-via-else-is_some}

pub stamp_for-youngest-requires-clause-part_value : goal.stamp_for-youngest-requires-clause-part_value
stamp_for-youngest-requires-clause-part_value c = (key_fits _ _ _ c.requires.part_value).0

pub read-requires : goal.read-requires
read-requires c = omega (arith, list_inside _ _ c.requires.whole)

-- the test is of the stamp
stamped : (c : After-is_some) → let a = c.args in is_some (stamp_for a.g a.key a.part.now) ≡ c.is_some.result
stamped c = rw (c.is_some.ensures, c.stamp_for-youngest.ensures)

pub returns-then-read-g : goal.returns-then-read-g
returns-then-read-g c =
    let s = stamped (goal.at.returns-then-read-g c).After-is_some in
    sym (last-taken _ _ _ (s ∙ c.if-is_some.true) (sym (listed-is c.read.ensures) ∙ c.if-read-g.true))

pub returns : goal.returns
returns c =
    let a = c.args in
    let s = stamped (goal.at.returns c).After-is_some in
    let planned : plan_listing a.g a.key a.part.now ≡ plan_removal a.g a.key (stamp_for a.g a.key a.part.now) a.part.now =
    elim c.else-is_some.branch [
      | else-is_some-via-then-is_some+else-read-g w ↦ last-free _ _ _ (s ∙ w.if-is_some.true) (λ e. w.if-read-g.false (listed-is w.read.ensures ∙ e))
      | else-is_some-via-else-is_some w ↦ nowhere _ _ _ (s ∙ w.if-is_some.false)
    ] in
    c.plan_removal.ensures ∙ rw c.stamp_for-youngest.ensures (sym planned)
