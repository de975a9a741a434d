-- What the checks refuse stops the call; on a table the call is that of its own crate.
use Rattle.opening.proofs.Opening.{opened-table, refuses}
use Rattle.index.proofs.get.Goals as goal

pub call-requires : goal.call-requires
call-requires c = opened-table _ _ _ c.in-Ok.ensures

pub returns-in-Err : goal.returns-in-Err
returns-in-Err c = refuses _ _ _ c.in-Err.ensures _ tt
