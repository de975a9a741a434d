-- The four writes are those of `with_head`, in its order.
use Rattle.model.specs.Partition.{with_head}
use borrow.Author.Rules.{rules}
use Rattle.head.proofs.put_back.Statement.{statement}
use Rattle.head.proofs.put_back.Tie as tie

returns : tie.Need-returns
unfolding with_head
returns c = cc

pub put_back_spec : {M : Type 1} → statement M
put_back_spec = tie.close (tie.spec (λ c κs. search rules) (λ c κs. search rules) (λ c κs. search rules) (λ c κs. search rules) (λ c. search rules) returns)
