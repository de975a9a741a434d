-- Of the entries with the key in this page the first one answers, if the page does.
use Rattle.std.proofs.Common.{sym, ◌∙◌}
use mathlib.Core.Bool.{and-true, and-false}
use Rattle.std.proofs.lemmas.Bool.{eq-eqb, ne_eqb}
use Rattle.sources.proofs.Sources.{lent}
use Rattle.answering.proofs.Asking.{answers_by}
use Rattle.answering.proofs.answers_with.Goals as goal

pub search-requires : goal.search-requires
search-requires c = (lent c.requires.spot c.requires.page_value).inside

pub returns-then-first-entry : goal.returns-then-first-entry
returns-then-first-entry c =
    let first = sym c.search.ensures ∙ c.in-Some.is in
    c.answers_in.ensures ∙ sym (answers_by _ _ _ _ _ _ _ _ _ c.requires.page_value c.requires.key_value ∙ rw (first, eq-eqb _ _ (sym c.if-first-entry.true)) (and-true _))

pub returns-else-first-entry : goal.returns-else-first-entry
returns-else-first-entry c =
    let first = sym c.search.ensures ∙ c.in-Some.is in
    let other = c.if-first-entry.false in
    ne_eqb _ _ other ∙ sym (answers_by _ _ _ _ _ _ _ _ _ c.requires.page_value c.requires.key_value ∙ rw (first, ne_eqb _ _ (λ e. other (sym e)), and-false))

pub returns-in-None : goal.returns-in-None
returns-in-None c =
    let none = sym c.search.ensures ∙ c.in-None.is in
    sym (answers_by _ _ _ _ _ _ _ _ _ c.requires.page_value c.requires.key_value ∙ rw (none, and-false))
