-- The list is the part behind the head, and its used places fit it. Of no places there is no first.
use mathlib.Core.Path.{sym}
use native.Mathlib.Nat.{add-sub_cancel_left}
use native.Mathlib.Omega.{arith}
use borrow.Author.Rules.{rules}
use Rattle.model.proofs.Heads.{head-fits}
use Rattle.model.proofs.Searching.{first-end}
use Rattle.head.proofs.Fields.{listed-is}
use Rattle.partition.proofs.Inside.{list_inside}
use Rattle.list.proofs.find.Statement.{statement}
use Rattle.list.proofs.find.Tie as tie

read-requires : tie.Need-read-n-requires
read-requires c κs = omega (arith, list_inside _ _ c.requires.0)

part-find-end : tie.Need-slice_bounds-find-end
part-find-end c = omega (arith, list_inside _ _ c.requires.0)

find-requires : tie.Need-find-requires
find-requires c κs =
    let s = c.before.before.before.before.before.before in
    omega (arith, listed-is c.read-n.ensures, (head-fits _ _ s.requires.1).list, list_inside _ _ s.requires.0)

returns : tie.Need-returns-then-n-eq0
returns c = rw (← listed-is c.read-n.ensures, c.if-n-eq0.true) (sym (first-end _ 0 0 (omega arith)))

returns-2 : tie.Need-returns
returns-2 c = rw (c.find.ensures, listed-is c.read-n.ensures, add-sub_cancel_left)

pub find_spec : {M : Type 1} → statement M
find_spec = tie.close (tie.spec read-requires (λ c. search rules) returns (λ c. search rules) (λ c. search rules) (λ c. search rules) (λ c. search rules) (λ c. search rules) part-find-end find-requires returns-2)
