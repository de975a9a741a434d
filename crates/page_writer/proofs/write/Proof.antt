-- The page's place in the slot and in the buffer are those of the definition.
use Prim.Native.Nat.{ℕ, ◌+◌, ◌≤◌, ◌<◌}
use mathlib.Core.Path.{◌≡◌, ◌∙◌, ap}
use native.Mathlib.Omega.{arith}
use lib.ListN.{length}
use borrow.Author.Rules.{rules}
use Rattle.model.specs.declared.Geometry.{Geometry}
use Rattle.model.specs.Geometry.{partitions, slot_page_at, flash_need}
use Rattle.model.proofs.Sizes.{sizes, slot-is-lt, slot-page-fits}
use Rattle.model.proofs.PartitionsFlash.{page-written}
use Rattle.partition.specs.Ready.{Whole}
use Rattle.partition.proofs.Inside.{page-inside}
use Rattle.partition.proofs.Lending.{partition-whole}
use Rattle.page_writer.proofs.write.Statement.{statement}
use Rattle.page_writer.proofs.write.Tie as tie

inside : (g : Geometry) (t j q : ℕ) {at long : ℕ} → at ≡ slot_page_at g t j q → t < partitions g → j < g.kept → q < g.pages → flash_need g ≤ long → at + g.page ≤ long
inside g t j q e lt lj lq fits = omega (arith, e, slot-page-fits g t j q lt lj lq)

-- ---- the steps that the facts go back to
abbrev start : tie.After-part_of-part → tie.Start
start c = c.before.before.before

abbrev slotted : tie.After-buffer_at-from → tie.After-slot_of-j
slotted c = c.before.before

whole : (c : tie.After-part_of-part) → Whole (start c).args.g c.part_of-part.result.now
whole c = let w = (start c).requires in record { fine = w.fine; long = ap length c.part_of-part.ensures ∙ (partition-whole _ _ w.fine w.memory_fits _ (omega (arith, w.partition_below))).long }

-- ---- what the calls ask
slot-page-at-requires : tie.Need-slot_page_at-at-requires
slot-page-at-requires c κs = let w = (start c.before).requires in (w.fine, (omega (arith, w.partition_below), (omega (arith, slot-is-lt _ w.fine _ c.slot_of-j.ensures), w.page_below)))

copy-numbered-requires : tie.Need-copy_numbered-requires
copy-numbered-requires c κs =
    let b = c.before.before in
    let j = slotted b in
    let p = j.before in
    let w = (start p).requires in
    let z = sizes _ w.fine in (
      omega (arith, inside _ _ _ _ b.slot_page_at-at.ensures (omega (arith, w.partition_below)) (omega (arith, slot-is-lt _ w.fine _ j.slot_of-j.ensures)) w.page_below w.flash_fits),
      (omega (arith, b.buffer_at-from.ensures, page-inside _ _ (whole p) _ w.page_below), omega (arith, z.page-min)),
    )

returns : tie.Need-returns
returns c =
    let d = c.before.before in
    let b = d.before.before.before in
    let j = slotted b in
    let p = j.before in
    page-written _ _ _ _ p.part_of-part.ensures (start p).requires.number_next j.slot_of-j.ensures b.slot_page_at-at.ensures b.buffer_at-from.ensures d.copy_numbered.ensures

pub write_spec : {M : Type 1} → statement M
write_spec = tie.close (tie.spec (λ c κs. search rules) (λ c κs. ((start c).requires.fine, omega (arith, (start c).requires.number_next))) slot-page-at-requires (λ c κs. search rules) (λ c. search rules) copy-numbered-requires (λ c. search rules) returns)
