-- What the checks refuse stops the call; on a table the call is that of its own crate.
use Rattle.opening.proofs.Opening.{opened-table, refuses}
use Rattle.index.proofs.view_outcome.Goals as goal

pub call-requires : goal.call-requires
call-requires c = opened-table _ _ _ c.in-Ok.ensures

pub returns-in-Err-clause-performs : goal.returns-in-Err-clause-performs
returns-in-Err-clause-performs c = rw c.into.ensures (refuses _ _ _ c.in-Err.ensures _ tt)
