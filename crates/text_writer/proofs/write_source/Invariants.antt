-- What is written so far is the lines of the pages before page q.
use Rattle.model.specs.PartitionText.{joined, page_text}
use Rattle.answers.specs.Told as told
use Rattle.text_writer.specs.Fitting.{PutsIfFits}
use Rattle.text_writer.proofs.write_source.Given as goal

abbrev pub invariant-loop-q : goal.invariant-loop-q
invariant-loop-q l = PutsIfFits (joined l.q (page_text l.g l.t l.part l.flash (told.place l.at))) l.from l.fn.text l.end l.text
