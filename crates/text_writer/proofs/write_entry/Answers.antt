use Rattle.std.proofs.Common.{length, sym, ◌∙◌, ap, arith}
use Rattle.answering.proofs.Entries.{line}
use Rattle.text_writer.proofs.Lines.{fits-told, fits-put, fits-not}
use Rattle.text_writer.proofs.write_entry.Goals as goal

pub returns-then-not-answers_with : goal.returns-then-not-answers_with
returns-then-not-answers_with c = fits-told _ _ _ _ c.args.entry (omega arith) (sym c.answers_with.ensures ∙ c.if-not-answers_with.true)

pub overflow_add-end : goal.overflow_add-end
overflow_add-end c =
    let its = line _ _ _ _ _ _ c.requires.page_value c.requires.value (sym c.answers_with.ensures ∙ c.if-not-answers_with.false) in
    omega (arith, ap length its, c.put_length.ensures, c.requires.bound)

pub returns-then-end-text : goal.returns-then-end-text
returns-then-end-text c = fits-put _ _ _ _ _ _ c.requires.page_value c.requires.value (sym c.answers_with.ensures ∙ c.if-not-answers_with.false) c.put_length.ensures c.write_put.ensures

pub returns-else-end-text : goal.returns-else-end-text
returns-else-end-text c = fits-not _ _ _ _ _ _ c.requires.page_value c.requires.value (sym c.answers_with.ensures ∙ c.if-not-answers_with.false) c.put_length.ensures c.if-end-text.false
