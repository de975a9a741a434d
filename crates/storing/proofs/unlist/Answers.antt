-- The arm that finds an entry does what the definition does for it; an entry that is found is one of the used places.
use Rattle.std.proofs.Common.{sym, ◌∙◌, ap, arith}
use Rattle.model.specs.Partition.{unlisted_head}
use Rattle.model.proofs.Searching.{first-at}
use Rattle.model.proofs.Heads.{head-fits}
use Rattle.model.proofs.PartitionsCalls.{was-listed, not_listed}
use Rattle.head.proofs.Fields.{listed-is}
use Rattle.partition.proofs.Inside.{list_inside}
use Rattle.storing.proofs.unlist.Goals as goal

pub read-head-requires : goal.read-head-requires
read-head-requires c = omega (arith, list_inside _ _ c.requires.whole)

-- ---- an entry is found
pub strike-requires-clause-i_lt_n : goal.strike-requires-clause-i_lt_n
strike-requires-clause-i_lt_n c = omega (arith, (first-at _ _ _ _ (sym c.in-Some.ensures)).high, listed-is c.read-head.ensures)

pub strike-requires-clause-n_le_list : goal.strike-requires-clause-n_le_list
strike-requires-clause-n_le_list c = omega (arith, listed-is c.read-head.ensures, (head-fits _ _ c.requires.part_value).list)

pub unlisted-requires : goal.unlisted-requires
unlisted-requires c = omega (arith, (first-at _ _ _ _ (sym c.in-Some.ensures)).high, listed-is c.read-head.ensures)

pub put_back-requires : goal.put_back-requires
put_back-requires c = omega (arith, list_inside _ _ c.requires.whole)

pub returns-in-Some : goal.returns-in-Some
returns-in-Some c =
    let head = c.read-head.ensures in
    was-listed _ _ _ _ _ _ _ _ (sym c.in-Some.ensures) (listed-is head) c.strike.ensures (c.unlisted.ensures ∙ ap (unlisted_head 1) head) c.put_back.ensures

-- ---- none is
pub returns-in-None : goal.returns-in-None
returns-in-None c = sym (not_listed _ _ _ (sym c.in-None.ensures))
