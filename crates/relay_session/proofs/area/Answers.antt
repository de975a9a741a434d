-- The array is the definition's zeros.
use Rattle.std.proofs.Common.{refl}
use Rattle.model.specs.Session.{zero_area}
use Rattle.relay_session.proofs.area.Goals as goal

pub returns-clause-value_2 : goal.returns-clause-value_2
unfolding zero_area
returns-clause-value_2 c = refl
