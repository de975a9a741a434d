-- A total above 0 counts the one entry that may go; one of 0 counts none, and then the key must have none.
use Rattle.std.proofs.Common.{sym, arith}
use Rattle.model.proofs.Checks.{key_fits}
use Rattle.model.proofs.Sizes.{page-of-lt}
use Rattle.head.proofs.Fields.{total-is}
use Rattle.partition.proofs.Inside.{list_inside}
use Rattle.del.proofs.Planning.{some-counted, none-taken, uncounted}
use Rattle.del.proofs.plan_removal.Goals as goal

pub read-total-requires : goal.read-total-requires
read-total-requires c = omega (arith, list_inside _ _ c.requires.whole)

pub returns-then-total-ne0 : goal.returns-then-total-ne0
returns-then-total-ne0 c = sym (some-counted _ _ _ _ c.requires.part_value (omega (arith, total-is c.read-total.ensures)))

pub find-requires-clause-q_lt_pages : goal.find-requires-clause-q_lt_pages
find-requires-clause-q_lt_pages c = rw c.page_of.ensures (page-of-lt _ c.requires.whole.fine _)

pub find-requires-clause-q_bound : goal.find-requires-clause-q_bound
find-requires-clause-q_bound c = rw c.page_of.ensures (key_fits _ _ _ c.requires.part_value).1

pub returns-in-Some : goal.returns-in-Some
returns-in-Some c = let found = rw c.page_of.ensures at c.in-Some.ensures in sym (uncounted _ _ _ _ _ (omega (arith, total-is c.read-total.ensures)) (sym found))

pub returns-in-None : goal.returns-in-None
returns-in-None c = let found = rw c.page_of.ensures at c.in-None.ensures in sym (none-taken _ _ _ _ c.requires.part_value (sym found))
