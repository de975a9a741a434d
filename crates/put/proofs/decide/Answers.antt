-- 21 is the first check, and the others do not look at the value.
use Rattle.std.proofs.Common.{◌∙◌}
use Rattle.put.proofs.Planning.{zero, nonzero}
use Rattle.put.proofs.decide.Goals as goal

pub returns-then-value-eq0 : goal.returns-then-value-eq0
returns-then-value-eq0 c = rw c.into.ensures (zero _ _ _ _ _ c.if-value-eq0.true)

pub returns : goal.returns
returns c = c.decide_room.ensures ∙ nonzero _ _ _ _ _ c.if-value-eq0.false
