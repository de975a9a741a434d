use Rattle.std.proofs.Common.{◌≡◌, length, ap, arith}
use Rattle.model.specs.PartitionText.{page_text}
use Rattle.model.proofs.Joining.{source-text}
use Rattle.answers.specs.Told as told
use Rattle.sources.proofs.Joined.{next-within}
use Rattle.text_writer.proofs.Putting.{fits-first, fits-next}
use Rattle.text_writer.proofs.write_source.Goals as goal

pub loop-q-init : goal.loop-q-init
loop-q-init c = fits-first _

pub write_page-end-requires-clause-bound : goal.write_page-end-requires-clause-bound
write_page-end-requires-clause-bound c =
    let a = c.args in
    let at = told.place a.at in
    omega (
      arith,
      next-within c.loop-q.q a.g.pages (page_text a.g a.t a.part.now a.flash.now at) c.loop-q-test.true,
      ap length (source-text a.g a.t a.part.now a.flash.now at),
    )

pub loop-q-preserved : goal.loop-q-preserved
loop-q-preserved c = fits-next _ _ c.loop-q.invariant c.write_page-end.ensures

pub returns : goal.returns
returns c =
    let last : c.loop-q.q ≡ c.args.g.pages = omega arith in
    rw source-text (rw last at c.loop-q.invariant)
