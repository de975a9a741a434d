-- What is younger answers first; if it answers none, the batch's own filter decides.
use Rattle.std.proofs.Common.{sym, ◌∙◌, arith}
use Rattle.std.proofs.lemmas.Bool.{not-true, not-false}
use Rattle.model.proofs.Checks.{pages-fit}
use Rattle.model.proofs.Heads.{live-bounds}
use Rattle.model.proofs.Passing.{batch-asked}
use Rattle.model.proofs.Sizes.{page-of-lt, slot-is-lt}
use Rattle.answering.proofs.Asking.{is-none, asked}
use Rattle.answering.proofs.is_batch_asked.Goals as goal

pub find-requires-clause-q_lt_pages : goal.find-requires-clause-q_lt_pages
find-requires-clause-q_lt_pages c = omega (arith, page-of-lt c.args.g c.requires.readable.whole.fine c.args.key)

pub find-requires-clause-q_bound : goal.find-requires-clause-q_bound
find-requires-clause-q_bound c =
    let r = c.requires.readable in
    rw c.page_of.ensures (pages-fit _ _ r.pages _ (page-of-lt _ r.whole.fine c.args.key))

pub returns-then-is_superseded : goal.returns-then-is_superseded
returns-then-is_superseded c =
    let p = c.requires in
    let unbuffered = rw (c.find.ensures, c.page_of.ensures) at (is-none _ (sym c.is_some.ensures ∙ c.if-is_some.false)) in
    let answers = not-true _ (sym c.is_superseded.ensures ∙ c.if-is_superseded.true) in
    sym (asked _ _ _ _ p.readable _ p.n_value _ p.key_value p.key_value_2 ∙ rw (unbuffered, answers))

pub slot_of-requires-clause-le_n : goal.slot_of-requires-clause-le_n
slot_of-requires-clause-le_n c = omega (arith, live-bounds _ _ c.requires.n_value)

pub passes-requires-clause-j_lt_kept : goal.passes-requires-clause-j_lt_kept
passes-requires-clause-j_lt_kept c = slot-is-lt _ c.requires.readable.whole.fine _ c.slot_of.ensures

pub returns : goal.returns
returns c =
    let p = c.requires in
    let unbuffered = rw (c.find.ensures, c.page_of.ensures) at (is-none _ (sym c.is_some.ensures ∙ c.if-is_some.false)) in
    let silent = not-false _ (sym c.is_superseded.ensures ∙ c.if-is_superseded.false) in
    rw (c.passes.ensures, c.mix.ensures, c.slot_of.ensures, ← batch-asked c.args.g c.args.key c.args.part.now c.args.n)
    (sym (asked _ _ _ _ p.readable _ p.n_value _ p.key_value p.key_value_2 ∙ rw (unbuffered, silent)))
