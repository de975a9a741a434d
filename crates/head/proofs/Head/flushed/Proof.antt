-- The live number is the raised one, and the others are the definition's.
use borrow.Author.Rules.{rules}
use Rattle.head.proofs.Head.flushed.Statement.{statement}
use Rattle.head.proofs.Head.flushed.Tie as tie

returns : tie.Need-returns
returns c = rw c.raised.ensures

pub flushed_spec : {M : Type 1} → statement M
flushed_spec = tie.close (tie.spec (λ c. search rules) (λ c κs. search rules) returns)
