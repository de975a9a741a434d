use Rattle.lines.proofs.Keeping.{puts-kept, same-kept}
use Rattle.lines.proofs.keep_rest.Goals as goal

pub returns-clause-puts : goal.returns-clause-puts
returns-clause-puts c = puts-kept _ _ _ _ c.min-n.ensures c.move_down.ensures

pub returns-clause-same : goal.returns-clause-same
returns-clause-same c = same-kept _ _ _ _ c.min-n.ensures c.move_down.ensures
