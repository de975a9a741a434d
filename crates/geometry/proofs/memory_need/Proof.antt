-- Memory ends where one partition more would begin.
use borrow.Author.Rules.{rules}
use Rattle.model.specs.Geometry.{memory_need}
use Rattle.geometry.proofs.memory_need.Statement.{statement}
use Rattle.geometry.proofs.memory_need.Tie as tie

returns : tie.Need-returns
unfolding memory_need
returns c = rw (c.partition_at.ensures, c.partition_count.ensures)

pub memory_need_spec : {M : Type 1} → statement M
memory_need_spec = tie.close (tie.spec (λ c κs. search rules) (λ c κs. search rules) returns)
