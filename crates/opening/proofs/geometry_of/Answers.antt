-- The fields stand where the definition reads them.
use Rattle.model.specs.Opening.{geometry_of}
use Rattle.opening.proofs.geometry_of.Goals as goal

pub returns : goal.returns
unfolding geometry_of
returns c = cc
