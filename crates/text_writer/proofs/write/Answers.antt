use Rattle.std.proofs.Common.{◌≡◌, ◌+◌, ℕ, List, length, ◌∙◌, ap, arith}
use Rattle.model.specs.declared.Geometry.{Geometry}
use Rattle.model.specs.Partition.{head_of, live_of}
use Rattle.model.specs.PartitionText.{source, source_text}
use Rattle.model.proofs.Heads.{head-fits}
use Rattle.model.proofs.Joining.{partition-text}
use Rattle.model.proofs.Sizes.{sizes}
use Rattle.head.proofs.Fields.{live-is}
use Rattle.partition.proofs.Inside.{list_inside}
use Rattle.sources.proofs.Joined.{next-within}
use Rattle.sources.proofs.Sources.{source_is}
use native.Mathlib.Nat.{zero-add}
use Rattle.text_writer.proofs.Bounded.{text-bound}
use Rattle.text_writer.proofs.Putting.{fits-first, fits-next}
use Rattle.text_writer.proofs.write.Goals as goal

-- the text of the i-th source
abbrev text_of : Geometry → ℕ → List ℕ → List ℕ → ℕ → List ℕ
text_of g t p f i = source_text g t p f (source (head_of p) i)

pub read-last-requires : goal.read-last-requires
read-last-requires c = omega (arith, list_inside _ _ c.requires.whole)

pub overflow_add-count : goal.overflow_add-count
overflow_add-count c = omega (arith, live-is c.read-last.ensures, (head-fits _ _ c.requires.head).kept, (sizes _ c.requires.whole.fine).kept-max)

pub loop-i-init : goal.loop-i-init
loop-i-init c = fits-first _

pub write_source-end-requires-clause-source : goal.write_source-end-requires-clause-source
write_source-end-requires-clause-source c = rw c.source-at.ensures (source_is _ _ _ _ c.requires c.loop-i.i)

pub write_source-end-requires-clause-bound : goal.write_source-end-requires-clause-bound
write_source-end-requires-clause-bound c =
    let a = c.args in
    let last = live-is c.read-last.ensures in
    rw c.source-at.ensures
    (omega (
      arith,
      next-within c.loop-i.i (live_of a.part.now + 1) (text_of a.g a.t a.part.now a.flash.now) (omega arith),
      ap length (partition-text a.g a.t a.part.now a.flash.now),
      text-bound a.g a.t a.part.now a.flash.now c.requires,
    ))

pub loop-i-preserved : goal.loop-i-preserved
loop-i-preserved c = fits-next c.loop-i.i (text_of c.args.g c.args.t c.args.part.now c.args.flash.now) c.loop-i.invariant (rw (← c.source-at.ensures) c.write_source-end.ensures)

pub returns : goal.returns
returns c =
    let a = c.args in
    let text = text_of a.g a.t a.part.now a.flash.now in
    let all : c.loop-i.i ≡ live_of a.part.now + 1 = omega (arith, live-is c.read-last.ensures) in
    let text = rw all at c.loop-i.invariant in
    rw (partition-text a.g a.t a.part.now a.flash.now) (record { told = text.ends ∙ zero-add _; written = λ h. text.holds (omega (arith, text.ends)) })
