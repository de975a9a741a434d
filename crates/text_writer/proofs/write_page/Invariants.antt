-- What is written so far is the lines of the entries before the reader's place.
use Rattle.std.proofs.Common.{◌≡◌, ◌≤◌, ◌+◌}
use Rattle.model.specs.Page.{count_of}
use Rattle.model.proofs.Joining.{lines_before}
use Rattle.answers.specs.Told as told
use Rattle.text_writer.specs.Fitting.{PutsIfFits}
use Rattle.text_writer.proofs.write_page.Given as goal

abbrev pub invariant-loop-entry : goal.invariant-loop-entry
invariant-loop-entry l = record {
  can : (goal.iterator-loop-entry).can_next l.entry-iterator;
  ends : (goal.iterator-loop-entry).is_finite l.entry-iterator;
  page : l.entry-iterator.page.now ≡ l.page;
  first : 1 ≤ l.entry-iterator.place;
  most : l.entry-iterator.place ≤ count_of l.page + 1;
  put : PutsIfFits (lines_before l.g l.spot.partition l.part l.flash (told.place l.spot.at) l.spot.page l.entry-iterator.place) l.from l.fn.text l.end l.text;
}
