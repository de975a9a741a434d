use Rattle.std.proofs.Common.{arith}
use Rattle.partition.proofs.Inside.{list_inside}
use Rattle.del.proofs.list.Goals as goal

-- the head stands before the list
pub read-head-requires : goal.read-head-requires
read-head-requires c = omega (arith, list_inside _ _ c.requires.whole)

pub put_back-requires : goal.put_back-requires
put_back-requires c = omega (arith, list_inside _ _ c.requires.whole)
