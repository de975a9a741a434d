-- Each test of the code is the one of the definition, in its order; that of the partition's number stops nothing.
use Rattle.std.proofs.Common.{Ok, sym, ◌∙◌, ap, arith}
use Rattle.model.proofs.Checks.{text-12, text-12-page, text-13}
use Rattle.partition.proofs.Inside.{list_inside}
use Rattle.sources.specs.Readable.{Readable}
use Rattle.text_writer.proofs.Bounded.{text-bound}
use Rattle.text.proofs.Deciding.{room-lacks, passes}
use Rattle.text.proofs.decide.Goals as goal

pub read-requires : goal.read-requires
read-requires c = omega (arith, list_inside _ _ c.requires.whole)

pub returns-then-is_overfull : goal.returns-then-is_overfull
returns-then-is_overfull c =
    let overfull = rw c.read.ensures at (sym c.is_overfull.ensures ∙ c.if-is_overfull.true) in
    rw (text-12 _ _ _ _ _ c.requires.t_bound overfull)

pub returns-then-is_some_page_overfull : goal.returns-then-is_some_page_overfull
returns-then-is_some_page_overfull c =
    let head = rw c.read.ensures at (sym c.is_overfull.ensures ∙ c.if-is_overfull.false) in
    rw (text-12-page _ _ _ _ _ c.requires.t_bound head (sym c.is_some_page_overfull.ensures ∙ c.if-is_some_page_overfull.true))

pub returns-then-is_some_failed : goal.returns-then-is_some_failed
returns-then-is_some_failed c =
    let head = rw c.read.ensures at (sym c.is_overfull.ensures ∙ c.if-is_overfull.false) in
    let pages = sym c.is_some_page_overfull.ensures ∙ c.if-is_some_page_overfull.false in
    rw (text-13 _ _ _ _ _ c.requires.t_bound head pages (sym c.is_some_failed.ensures ∙ c.if-is_some_failed.true))

pub returns-then-room-length : goal.returns-then-room-length
returns-then-room-length c =
    let head = rw c.read.ensures at (sym c.is_overfull.ensures ∙ c.if-is_overfull.false) in
    let pages = sym c.is_some_page_overfull.ensures ∙ c.if-is_some_page_overfull.false in
    let batches = sym c.is_some_failed.ensures ∙ c.if-is_some_failed.false in
    rw (room-lacks _ _ c.args.room _ _ c.requires.t_bound head pages batches (omega arith))

pub overflow_cast-result : goal.overflow_cast-result
overflow_cast-result c =
    let a = c.args in
    let p = c.requires in
    let r : Readable a.g a.t a.part.now a.flash.now = record {
      whole = p.whole;
      flash_fits = p.g_in_bounds;
      below = p.t_bound;
      head = rw c.read.ensures at (sym c.is_overfull.ensures ∙ c.if-is_overfull.false);
      pages = sym c.is_some_page_overfull.ensures ∙ c.if-is_some_page_overfull.false;
      batches = sym c.is_some_failed.ensures ∙ c.if-is_some_failed.false;
    } in
    omega (arith, text-bound a.g a.t a.part.now a.flash.now r)

pub returns : goal.returns
returns c =
    let head = rw c.read.ensures at (sym c.is_overfull.ensures ∙ c.if-is_overfull.false) in
    let pages = sym c.is_some_page_overfull.ensures ∙ c.if-is_some_page_overfull.false in
    let batches = sym c.is_some_failed.ensures ∙ c.if-is_some_failed.false in
    rw (passes _ _ c.args.room _ _ c.requires.t_bound head pages batches (omega arith)) (ap Ok c.text_length-length.ensures)
