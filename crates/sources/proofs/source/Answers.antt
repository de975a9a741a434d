-- The head that is read is the partition's, so the live batches are counted from the oldest on.
use Rattle.std.proofs.Common.{sym, ◌∙◌, ap, arith}
use Rattle.model.specs.Answers.{batch}
use Rattle.model.proofs.Answering.{source-batch, source-buffer}
use Rattle.model.proofs.Heads.{head-fits}
use Rattle.head.proofs.Fields.{flushes-is, live-is}
use Rattle.partition.proofs.Inside.{list_inside}
use Rattle.sources.proofs.source.Goals as goal

pub read-head-requires : goal.read-head-requires
read-head-requires c = omega (arith, list_inside _ _ c.requires.whole)

pub overflow_sub-result : goal.overflow_sub-result
overflow_sub-result c =
    let h = c.read-head.ensures in
    omega (arith, live-is h, flushes-is h, (head-fits _ _ c.requires.part_value).flushed)

pub returns-then-i-live : goal.returns-then-i-live
returns-then-i-live c =
    let h = c.read-head.ensures in
    sym (source-batch _ _ (omega (arith, live-is h)) ∙ ap batch (omega (arith, live-is h, flushes-is h)))

pub returns : goal.returns
returns c = sym (source-buffer _ _ (omega (arith, live-is c.read-head.ensures)))
