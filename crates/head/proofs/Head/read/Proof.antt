-- Each field is the number read at its place.
use borrow.Author.Rules.{rules}
use Rattle.head.proofs.Head.read.Statement.{statement}
use Rattle.head.proofs.Head.read.Tie as tie

returns : tie.Need-returns
returns c = cc

pub read_spec : {M : Type 1} → statement M
read_spec = tie.close (tie.spec (λ c κs. search rules) (λ c κs. search rules) (λ c κs. search rules) (λ c κs. search rules) returns)
