use Rattle.std.proofs.Common.{sym, ◌∙◌}
use Rattle.records.proofs.Blocks.{block-more}
use Rattle.records.proofs.skip.Goals as goal

pub loop-block-preserved : goal.loop-block-preserved
loop-block-preserved c = block-more _ _ _ _ c.loop-block.invariant (sym c.is_in_block.ensures ∙ c.if-is_in_block.false)
