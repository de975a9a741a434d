-- The key's partition is one of the table's.
use mathlib.Core.Path.{◌∙◌, ap}
use native.Mathlib.Omega.{arith}
use borrow.Author.Rules.{rules}
use Rattle.model.specs.Geometry.{partition_at}
use Rattle.model.proofs.Sizes.{partition-of-lt}
use Rattle.keys.proofs.key_partition_at.Statement.{statement}
use Rattle.keys.proofs.key_partition_at.Tie as tie

partition-at-requires : tie.Need-partition_at-requires
partition-at-requires c κs = let s = c.before in (s.requires, omega (arith, c.partition_of.ensures, partition-of-lt _ s.requires s.args.key (omega arith)))

returns : tie.Need-returns
returns c = c.partition_at.ensures ∙ ap (partition_at c.args.g) c.partition_of.ensures

pub key_partition_at_spec : {M : Type 1} → statement M
key_partition_at_spec = tie.close (tie.spec (λ c κs. search rules) partition-at-requires returns)
