-- What is written so far is the lines of the sources before source i.
use Rattle.model.specs.Partition.{head_of}
use Rattle.model.specs.PartitionText.{joined, source, source_text}
use Rattle.text_writer.specs.Fitting.{PutsIfFits}
use Rattle.text_writer.proofs.write.Given as goal

abbrev pub invariant-loop-i : goal.invariant-loop-i
invariant-loop-i l = PutsIfFits (joined l.i (λ i. source_text l.g l.t l.part l.flash (source (head_of l.part) i))) 0 l.fn.text l.end l.text
