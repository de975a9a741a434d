use Rattle.std.proofs.Common.{◌≡◌, ◌+◌, ℕ, List, Bor, refl, ◌∙◌, ap, arith}
use Rattle.model.specs.Page.{count_of}
use Rattle.model.proofs.Joining.{lines-first, lines_next, lines-last, lines-within}
use Rattle.answers.specs.Told as told
use Rattle.page_reader.proofs.Given.{given-end}
use Rattle.page_reader.specs.declared.Reader.{Reader}
use Rattle.text_writer.proofs.Putting.{fits-none, fits-append}
use Rattle.sources.specs.Readable.{spot_page}
use Rattle.sources.proofs.Sources.{lent}
use Rattle.answering.proofs.Entries.{given}
use Rattle.text_writer.proofs.write_page.Goals as goal

pub loop-entry-init : goal.loop-entry-init
loop-entry-init c =
    let made = c.into_iter-entry-iterator.ensures.into_iter_gives in
    let page = ap (λ (r : Reader). r.page.now) made ∙ ap (λ (b : Bor (List ℕ)). b.now) c.new-entries.ensures.0 in
    let place : c.into_iter-entry-iterator.result.place ≡ 1 = omega (arith, ap (λ (r : Reader). r.place) made, c.new-entries.ensures.1) in
    rw (page, place) (record { can = (lent c.requires.spot c.page_at-page.ensures).inside; ends = tt; page = refl; first = omega arith; most = omega arith; put = rw lines-first fits-none })

pub write_entry-end-requires-clause-value : goal.write_entry-end-requires-clause-value
write_entry-end-requires-clause-value c = (given (rw c.loop-entry.invariant.page at c.next.ensures.steps.0) c.in-Some.is).own

pub write_entry-end-requires-clause-bound : goal.write_entry-end-requires-clause-bound
write_entry-end-requires-clause-bound c =
    let a = c.args in
    let v = c.loop-entry.invariant in
    let e = given (rw v.page at c.next.ensures.steps.0) c.in-Some.is in
    let count : count_of c.page_at-page.result.now ≡ count_of (spot_page a.g a.spot a.part.now a.flash.now) = ap count_of c.page_at-page.ensures in
    rw e.placed (omega (arith, v.put.ends, c.requires.bound, lines-within a.g a.spot.partition a.part.now a.flash.now (told.place a.spot.at) a.spot.page c.loop-entry.entry-iterator.place v.first (omega (arith, e.used))))

pub loop-entry-preserved : goal.loop-entry-preserved
loop-entry-preserved c =
    let v = c.loop-entry.invariant in
    let e = given (rw v.page at c.next.ensures.steps.0) c.in-Some.is in
    let page = ap (λ (b : Bor (List ℕ)). b.now) c.next.ensures.steps.1 ∙ v.page in
    let place = rw c.in-Some.is at c.next.ensures.steps.2 in
    rw (page, place) (record {
      can = (lent c.requires.spot c.page_at-page.ensures).inside;
      ends = tt;
      page = refl;
      first = omega arith;
      most = omega (arith, e.used);
      put = rw (lines_next _ _ _ _ _ _ _ v.first) (fits-append v.put (rw e.placed at c.write_entry-end.ensures));
    })

pub returns : goal.returns
returns c =
    let a = c.args in
    let v = c.loop-entry.invariant in
    let end = given-end c.page_at-page.result.now c.loop-entry.entry-iterator.place (rw v.page at c.next.ensures.steps.0) c.in-None.is in
    let last : c.loop-entry.entry-iterator.place ≡ count_of (spot_page a.g a.spot a.part.now a.flash.now) + 1 = omega (arith, end, v.most, ap count_of c.page_at-page.ensures) in
    rw (← lines-last a.g a.spot.partition a.part.now a.flash.now (told.place a.spot.at) a.spot.page, ← last) v.put
