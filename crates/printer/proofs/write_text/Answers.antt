use Rattle.std.proofs.Common.{arith, rules, refl}
use Rattle.model.proofs.Parts.{store-more}
use Rattle.printer.proofs.write_text.Goals as goal

pub loop-i-preserved : goal.loop-i-preserved
loop-i-preserved c = store-more _ _ _ _ _ c.loop-i.invariant (omega arith) refl
