-- The plan is for the key's partition.
use Rattle.std.proofs.Common.{arith}
use Rattle.put.proofs.Calling.{whole}
use Rattle.put.proofs.call.Goals as goal

pub decide-plan-requires-clause-whole : goal.decide-plan-requires-clause-whole
decide-plan-requires-clause-whole c = rw c.part_of_key.ensures (whole _ _ _ c.requires _ (omega arith))
