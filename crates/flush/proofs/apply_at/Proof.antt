-- The partition is lent as the flush leaves it, and comes back with its total lowered.
use mathlib.Core.Path.{◌≡◌, ◌∙◌, ap}
use native.Mathlib.Omega.{arith}
use borrow.Author.Rules.{rules}
use Rattle.model.specs.Flush.{flushed}
use Rattle.model.specs.Partition.{partition, head_of, total_of, totalled}
use Rattle.model.proofs.Heads.{HeadWords}
use Rattle.model.proofs.Lengths.{length-totalled, length-flushed}
use Rattle.model.proofs.Totals.{total-flushed}
use Rattle.partition.proofs.Inside.{list_inside}
use Rattle.partition.proofs.Lending.{Lent, lends, partition-whole, partition-words}
use Rattle.partition.proofs.Changing.{changed-there, changed-fits, changed-again}
use Rattle.flush.proofs.apply_at.Statement.{statement}
use Rattle.flush.proofs.apply_at.Tie as tie

-- ---- the steps that the facts go back to
abbrev start : tie.After-apply_at → tie.Start
start c = c.before.before.before.before.before

abbrev flushed-at : tie.After-partition_size → tie.After-apply_at
flushed-at c = c.before.before.before.before.before.before

words : (c : tie.After-apply_at) → let a = (start c).args in HeadWords (head_of (partition a.g a.t a.memory.now))
words c = let a = (start c).args in partition-words a.g a.t a.memory.now (λ i. omega (arith, c.slice_known-1.given i))

total_kept : (c : tie.After-apply_at) → let a = (start c).args in total_of (partition a.g a.t c.apply_at.new.memory) ≡ total_of (partition a.g a.t a.memory.now)
total_kept c =
    let a = (start c).args in
    let p = (start c).requires in
    ap total_of (changed-there a.g a.memory.now p.0 p.1.0 a.t p.1.1.0.below (flushed a.g a.t) (length-flushed a.g a.t) c.apply_at.ensures.0)
    ∙ total-flushed _ p.0 _ (partition-whole a.g a.memory.now p.0 p.1.0 a.t p.1.1.0.below).long (words c) _ (omega (arith, p.1.1.0.number))

lent : (c : tie.After-partition_size) → let a = (start (flushed-at c)).args in Lent a.g a.t (flushed-at c).apply_at.new.memory c.partition_at-a.result c.partition_size.result
lent c =
    let p = (start (flushed-at c)).requires in
    lends _ _ p.0 (changed-fits _ _ p.0 p.1.0 _ p.1.1.0.below _ (length-flushed _ _) (flushed-at c).apply_at.ensures.0) _ p.1.1.0.below _ _ c.partition_at-a.ensures c.partition_size.ensures

change-total-requires : tie.Need-change_total-requires
change-total-requires c κs =
    let l = lent c.before in
    let d = flushed-at c.before in
    let p = (start d).requires in
    let t = ap total_of l.own ∙ total_kept d in
    (omega (arith, list_inside _ _ l.whole), (omega (arith, t, (words d).total), omega (arith, t, p.1.1.1.1)))

returns : tie.Need-returns
returns c =
    let s = c.before.before.before.before in
    let d = flushed-at s in
    let p = (start d).requires in
    let less = (start d).args.less in
    (changed-again _ _ p.0 p.1.0 _ p.1.1.0.below _ (length-flushed _ _) d.apply_at.ensures.0 (totalled 0 less) (length-totalled 0 less) ((lent s).back (totalled 0 less) (length-totalled 0 less) _ c.change_total.ensures), d.apply_at.ensures.1)

pub apply_at_spec : {M : Type 1} → statement M
apply_at_spec =
    tie.close (tie.spec (λ c κs. let p = c.requires in (p.0, (p.1.0, (p.1.1.0, p.1.1.1.0)))) (λ c κs. search rules) (λ c κs. search rules) (λ c. omega (arith, (lent c).inside)) (λ c. search rules) (λ c. search rules) (λ c. omega (arith, (lent c).inside)) change-total-requires
    (λ c. search rules) (λ c. search rules) returns)
