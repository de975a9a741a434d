-- The line is moved within the part of the buffer that holds it.
use Rattle.held.proofs.Holding.{kept}
use Rattle.held.proofs.hold.Goals as goal

pub returns : goal.returns
returns c = kept _ _ _ _ c.requires c.keep_rest.ensures.puts
