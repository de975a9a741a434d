-- Each test of the code is the one of the definition, in its order; that of the partition's number stops nothing.
use Rattle.std.proofs.Common.{sym, ◌∙◌, arith}
use Rattle.partition.proofs.Inside.{list_inside}
use Rattle.flush.proofs.Deciding.{over, page_over, unused, then_due}
use Rattle.flush.proofs.decide.Goals as goal

pub read-requires : goal.read-requires
read-requires c = omega (arith, list_inside _ _ c.requires.whole)

pub returns-then-is_overfull : goal.returns-then-is_overfull
returns-then-is_overfull c = rw c.into.ensures (over _ _ _ _ c.requires.t_bound _ c.read.ensures (sym c.is_overfull.ensures ∙ c.if-is_overfull.true))

pub returns-then-is_some_page_overfull : goal.returns-then-is_some_page_overfull
returns-then-is_some_page_overfull c =
    let fits = sym c.is_overfull.ensures ∙ c.if-is_overfull.false in
    let some = sym c.is_some_page_overfull.ensures ∙ c.if-is_some_page_overfull.true in
    rw c.into-then-is_some_page_overfull.ensures (page_over _ _ _ _ c.requires.t_bound _ c.read.ensures fits some)

pub returns-then-not-is_in_use : goal.returns-then-not-is_in_use
returns-then-not-is_in_use c =
    let fits = sym c.is_overfull.ensures ∙ c.if-is_overfull.false in
    let pages = sym c.is_some_page_overfull.ensures ∙ c.if-is_some_page_overfull.false in
    rw c.into-then-not-is_in_use.ensures (unused _ _ _ _ c.requires.t_bound _ c.read.ensures fits pages (sym c.is_in_use.ensures ∙ c.if-not-is_in_use.true))

pub returns : goal.returns
returns c =
    let fits = sym c.is_overfull.ensures ∙ c.if-is_overfull.false in
    let pages = sym c.is_some_page_overfull.ensures ∙ c.if-is_some_page_overfull.false in
    c.decide.ensures ∙ then_due _ _ _ _ c.requires.t_bound _ c.read.ensures fits pages (sym c.is_in_use.ensures ∙ c.if-not-is_in_use.false)
