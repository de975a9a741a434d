-- The bench cases hold, by computation.
use mathlib.Core.Path.{refl}
use Rattle.model.specs.Card.{most_flushes, first_lost, figured}
use Rattle.model.specs.Text.{figures, past, leading, number_from, figure}
use Rattle.model.specs.Session.{put_line, get_line, del_line, flush_line, count_line, drop_line, format_line, call_of, answer_text, line_prints, line_leaves, lines_of, zero_area, lines_print}
use Rattle.model.proofs.Computing.{computing}
use Rattle.cases.specs.Table.{searches, cards, drops, texts, writes, counts, rows, Agree, all_figures, carried, session, formatting, changed, two_put, all_with_live, written, writing, texted}

-- what a row opens: the calls, the session's text and the table's own words
unfoldable opened : Type 0
unfolding computing most_flushes first_lost figured Agree all_figures carried session formatting changed all_with_live two_put written writing texted figures past leading number_from figure put_line get_line del_line flush_line count_line drop_line format_line call_of answer_text line_prints line_leaves lines_of zero_area lines_print
opened = Unit {0}

searches-agree : Agree searches
unfolding opened searches
searches-agree = (refl, (refl, (refl, (refl, (refl, tt)))))

cards-agree : Agree cards
unfolding opened cards
cards-agree = (refl, (refl, (refl, (refl, searches-agree))))

drops-agree : Agree drops
unfolding opened drops
drops-agree = (refl, (refl, (refl, (refl, (refl, (refl, (refl, (refl, cards-agree))))))))

texts-agree : Agree texts
unfolding opened texts
texts-agree = (refl, (refl, (refl, (refl, (refl, (refl, drops-agree))))))

writes-agree : Agree writes
unfolding opened writes
writes-agree = (refl, (refl, (refl, (refl, texts-agree))))

counts-agree : Agree counts
unfolding opened counts
counts-agree = (refl, (refl, (refl, (refl, (refl, (refl, (refl, (refl, writes-agree))))))))

pub agree : Agree rows
unfolding opened rows
agree = (refl, (refl, (refl, (refl, (refl, (refl, (refl, (refl, (refl, (refl, (refl, (refl, (refl, (refl, (refl, (refl, (refl, (refl, (refl, (refl, (refl, (refl, (refl, counts-agree)))))))))))))))))))))))
