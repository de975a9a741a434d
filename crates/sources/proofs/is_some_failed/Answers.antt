-- The head is the partition's, so its batches are counted from the oldest on.
use Rattle.std.proofs.Common.{◌≡◌, ℕ, Bool, List, sym, ◌∙◌, ap, arith}
use Rattle.std.proofs.Math.Nat.{sub-zero}
use Rattle.model.specs.declared.Geometry.{Geometry}
use Rattle.model.specs.Search.{is_some}
use Rattle.model.specs.Partition.{Head, head_of}
use Rattle.model.specs.Batch.{failed_page}
use Rattle.model.specs.PartitionText.{live_batch, some_batch_fails}
use Rattle.model.proofs.Heads.{head-fits}
use Rattle.model.proofs.Searching.{first-here, first_next, first-end}
use Rattle.head.proofs.Fields.{flushes-is, live-is}
use Rattle.partition.proofs.Inside.{list_inside}
use Rattle.sources.proofs.is_some_failed.Goals as goal

-- the batch that is examined is the i-th live one
examined : (g : Geometry) (t : ℕ) (f : List ℕ) (h : Head) (i : ℕ) {n : ℕ} {r : Bool} → r ≡ is_some (failed_page g t f n) → n ≡ live_batch h i → r ≡ is_some (failed_page g t f (live_batch h i))
examined g t f h i e same = rw same at e

pub read-head-requires : goal.read-head-requires
read-head-requires c = omega (arith, list_inside _ _ c.requires.whole)

pub overflow_sub-dead : goal.overflow_sub-dead
overflow_sub-dead c =
    let h = c.read-head.ensures in
    omega (arith, live-is h, flushes-is h, (head-fits _ _ c.requires.part_value).flushed)

pub loop-i-init : goal.loop-i-init
unfolding some_batch_fails
loop-i-init c = rw sub-zero

pub returns-then-is_failed : goal.returns-then-is_failed
returns-then-is_failed c =
    let h = c.read-head.ensures in
    let fits = (head-fits _ _ c.requires.part_value).flushed in
    let asked = examined _ _ _ (head_of c.args.part.now) c.loop-i.i c.is_failed.ensures (omega (arith, live-is h, flushes-is h, fits)) in
    sym (c.loop-i.invariant ∙ ap is_some (first-here _ _ _ (omega (arith, live-is h, flushes-is h, fits)) (sym asked ∙ c.if-is_failed.true)))

pub loop-i-preserved : goal.loop-i-preserved
loop-i-preserved c =
    let h = c.read-head.ensures in
    let fits = (head-fits _ _ c.requires.part_value).flushed in
    let asked = examined _ _ _ (head_of c.args.part.now) c.loop-i.i c.is_failed.ensures (omega (arith, live-is h, flushes-is h, fits)) in
    c.loop-i.invariant ∙ ap is_some (first_next _ _ _ (omega (arith, live-is h, flushes-is h, fits)) (sym asked ∙ c.if-is_failed.false))

pub returns : goal.returns
returns c = let h = c.read-head.ensures in sym (c.loop-i.invariant ∙ ap is_some (first-end _ _ _ (omega (arith, live-is h, flushes-is h, (head-fits _ _ c.requires.part_value).flushed))))
