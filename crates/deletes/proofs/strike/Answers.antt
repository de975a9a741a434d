-- The list is a run of records from record 0 on.
use Rattle.model.specs.DeleteList.{struck}
use Rattle.deletes.proofs.strike.Goals as goal

pub returns : goal.returns
unfolding struck
returns c = cc
