-- A partition ends where its buffer does.
use borrow.Author.Rules.{rules}
use Rattle.model.specs.Geometry.{stride}
use Rattle.geometry.proofs.partition_size.Statement.{statement}
use Rattle.geometry.proofs.partition_size.Tie as tie

returns : tie.Need-returns
unfolding stride
returns c = c.buffer_at.ensures

pub partition_size_spec : {M : Type 1} → statement M
partition_size_spec = tie.close (tie.spec (λ c κs. search rules) returns)
