-- The three writes are those of `enlisted`, in its order.
use Rattle.model.specs.DeleteList.{enlisted}
use Rattle.deletes.proofs.enlist.Goals as goal

pub returns : goal.returns
unfolding enlisted
returns c = cc
