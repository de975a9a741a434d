-- The slot is that of the batch after F.
use Prim.Native.Nat.{ℕ, ◌+◌}
use mathlib.Core.Path.{◌≡◌, ◌∙◌, ap}
use native.Mathlib.Omega.{arith}
use lib.ListN.{length}
use borrow.Author.Rules.{rules}
use Rattle.model.specs.Partition.{partition, flushes_of, slot}
use Rattle.head.proofs.Fields.{flushes-is}
use Rattle.partition.specs.Ready.{Whole}
use Rattle.partition.proofs.Inside.{list_inside}
use Rattle.partition.proofs.Lending.{partition-whole}
use Rattle.flushing.proofs.apply_at.Statement.{statement}
use Rattle.flushing.proofs.apply_at.Tie as tie

abbrev start : tie.After-part_of-part → tie.Start
start c = c.before.before.before

whole : (c : tie.After-part_of-part) → Whole (start c).args.g c.part_of-part.result.now
whole c = let p = (start c).requires in record { fine = p.0; long = ap length c.part_of-part.ensures ∙ (partition-whole _ _ p.0 p.1.0 _ p.1.1.0.below).long }

same : (c : tie.After-read) → let a = (start c.before).args in c.read.result.flushes ≡ flushes_of (partition a.g a.t a.memory.now)
same c = flushes-is c.read.ensures ∙ ap flushes_of c.part_of-part.ensures

apply-in-slot-requires : tie.Need-apply_in_slot-requires
apply-in-slot-requires c κs =
    let j = c.before.before in
    let r = j.before.before in
    let s = start r.before in
    let p = s.requires in
    (p.0, (p.1.0, (p.1.1.0, (p.1.1.1, j.slot_of-j.ensures ∙ ap (λ (n : ℕ). slot s.args.g (n + 1)) (same r)))))

pub apply_at_spec : {M : Type 1} → statement M
apply_at_spec =
    tie.close (tie.spec (λ c κs. let p = c.requires in (p.0, (p.1.0, p.1.1.0.below))) (λ c κs. omega (arith, list_inside _ _ (whole c))) (λ c. omega (arith, same c.before, (start c.before.before).requires.1.1.0.number)) (λ c κs. ((start c.before.before).requires.0, omega arith)) apply-in-slot-requires
    (λ c. search rules) (λ c. search rules) (λ c. c.apply_in_slot.ensures))
