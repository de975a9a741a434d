-- The partition is lent to be prepared; the batch moves from memory as that leaves it; then the partition is lent again, for its head, and comes back flushed.
use Prim.Native.Nat.{ℕ, ◌+◌, ◌-◌}
use mathlib.Core.List.{List}
use mathlib.Core.Path.{◌≡◌, ◌∙◌, ap}
use native.Mathlib.Omega.{arith}
use borrow.Author.Rules.{rules}
use borrow.Rule.Slice.PartMut.{put_mid}
use Rattle.model.specs.Bytes.{within}
use Rattle.model.specs.Geometry.{stride, partition_at}
use Rattle.model.specs.Partition.{Head, with_head, flushes_of, partition}
use Rattle.model.specs.Flush.{head_after}
use Rattle.model.proofs.Lengths.{length-with_head}
use Rattle.head.specs.Heads.{as_head}
use Rattle.partition.proofs.Inside.{list_inside}
use Rattle.partition.proofs.Lending.{Lent, lends}
use Rattle.partition.proofs.Changing.{changed-fits}
use Rattle.flushing.proofs.Prepared.{prepared, length-prepared, number-after, same_number, same-batch, fits-behind, all-flushed}
use Rattle.flushing.proofs.apply_in_slot.Statement.{statement}
use Rattle.flushing.proofs.apply_in_slot.Tie as tie

-- ---- the steps that the facts go back to
abbrev start : tie.After-partition_size → tie.Start
start c = c.before.before.before.before

abbrev sized : tie.After-prepare-head → tie.After-partition_size
sized c = c.before.before

abbrev readied : tie.After-move_batch → tie.After-prepare-head
readied c = c.before.before.before.before.before

-- ---- lent to be prepared
lent : (c : tie.After-partition_size) → let a = (start c).args in Lent a.g a.t a.memory.now c.partition_at-a.result c.partition_size.result
lent c = let p = (start c).requires in lends _ _ p.0 p.1.0 _ p.1.1.0.below _ _ c.partition_at-a.ensures c.partition_size.ensures

prepare-requires : tie.Need-prepare-head-requires
prepare-requires c κs = let l = lent c.before in let p = (start c.before).requires in (l.whole, (rw l.own p.1.1.0, rw l.own p.1.1.1.1))

-- memory as that leaves it
abbrev between : tie.After-prepare-head → List ℕ
between c =
    let s = sized c in
    let a = s.partition_at-a.result in
    put_mid a (a + s.partition_size.result - a) (start s).args.memory.now c.prepare-head.new.part

made : (c : tie.After-prepare-head) → let a = (start (sized c)).args in between c ≡ within (partition_at a.g a.t) (stride a.g) (prepared a.g) a.memory.now
made c = let g = (start (sized c)).args.g in (lent (sized c)).back (prepared g) (length-prepared g) _ c.prepare-head.ensures.0

number : (c : tie.After-prepare-head) → let a = (start (sized c)).args in c.prepare-head.result.flushes ≡ flushes_of (partition a.g a.t a.memory.now) + 1
number c = ap (λ (h : Head). h.flushes) c.prepare-head.ensures.1 ∙ number-after _ _ ∙ ap (λ (p : List ℕ). flushes_of p + 1) (lent (sized c)).own

move-batch-requires : tie.Need-move_batch-requires
move-batch-requires c κs =
    let d = c.before.before.before.before in
    let p = (start (sized d)).requires in
    (p.0, (changed-fits _ _ p.0 p.1.0 _ p.1.1.0.below _ (length-prepared _) (made d), (p.1.1.1.0, (p.1.1.0.below, omega (arith, number d, same_number _ _ p.0 p.1.0 _ p.1.1.0 (made d))))))

-- ---- lent again, for its head
lent_again : (c : tie.After-move_batch) → let s = sized (readied c) in let a = (start s).args in Lent a.g a.t c.move_batch.new.memory s.partition_at-a.result s.partition_size.result
lent_again c =
    let d = readied c in
    let s = sized d in
    let p = (start s).requires in
    lends _ _ p.0 (fits-behind _ _ p.0 p.1.0 _ p.1.1.0 (made d) c.move_batch.ensures.0) _ p.1.1.0.below _ _ s.partition_at-a.ensures s.partition_size.ensures

put-back-requires : tie.Need-put_back-requires
put-back-requires c κs = omega (arith, list_inside _ _ (lent_again c.before.before.before.before.before).whole)

returns : tie.Need-returns
returns c =
    let b = c.before.before.before.before.before.before.before.before in
    let d = readied b in
    let p = (start (sized d)).requires in
    let h = d.prepare-head.ensures.1 ∙ ap (head_after (start (sized d)).args.g) (lent (sized d)).own in
    let head = as_head d.prepare-head.result in (
      all-flushed _ _ p.0 p.1.0 _ p.1.1.0 (made d) b.move_batch.ensures.0 h ((lent_again b).back (with_head head) (length-with_head head) _ c.put_back.ensures),
      same-batch _ _ p.0 p.1.0 _ p.1.1.0 (made d) _ b.move_batch.ensures.1,
    )

pub apply_in_slot_spec : {M : Type 1} → statement M
apply_in_slot_spec =
    tie.close (tie.spec (λ c κs. search rules) (λ c κs. search rules) (λ c. omega (arith, (lent c).inside)) (λ c. search rules) (λ c. search rules) (λ c. omega (arith, (lent c).inside)) prepare-requires move-batch-requires
    (λ c. search rules) (λ c. search rules) (λ c. omega (arith, (lent_again c.before.before.before.before).inside)) put-back-requires (λ c. search rules) (λ c. search rules) returns)
