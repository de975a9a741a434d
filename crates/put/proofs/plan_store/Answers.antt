-- Room for an entry more, then the key's page: the two cases of the definition.
use Rattle.std.proofs.Common.{sym, arith}
use Rattle.model.proofs.Sizes.{page-of-lt}
use Rattle.model.proofs.Checks.{key_fits}
use Rattle.head.proofs.Fields.{total-is}
use Rattle.partition.proofs.Inside.{list_inside}
use Rattle.put.proofs.Planning.{found, room, no_room}
use Rattle.put.proofs.plan_store.Goals as goal

pub read-requires : goal.read-requires
read-requires c = omega (arith, list_inside _ _ c.requires.whole)

pub returns-then-read-most_entries : goal.returns-then-read-most_entries
returns-then-read-most_entries c = room _ _ _ c.requires.part_value (omega (arith, total-is c.read.ensures, c.most_entries.ensures))

pub find-requires-clause-q_lt_pages : goal.find-requires-clause-q_lt_pages
find-requires-clause-q_lt_pages c = rw c.page_of.ensures (page-of-lt _ c.requires.whole.fine _)

pub find-requires-clause-q_bound : goal.find-requires-clause-q_bound
find-requires-clause-q_bound c = rw c.page_of.ensures (key_fits _ _ _ c.requires.part_value).1

pub returns-in-Some : goal.returns-in-Some
returns-in-Some c = found _ _ _ c.requires.part_value _ (rw c.page_of.ensures at (sym c.in-Some.ensures))

pub returns-in-None : goal.returns-in-None
returns-in-None c =
    rw c.into.ensures
    (no_room _ _ _ c.requires.part_value (omega (arith, total-is c.read.ensures, c.most_entries.ensures)) (rw c.page_of.ensures at (sym c.in-None.ensures)))
