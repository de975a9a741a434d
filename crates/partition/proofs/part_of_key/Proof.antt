-- The key's partition is one of those that there are.
use native.Mathlib.Omega.{arith}
use borrow.Author.Rules.{rules}
use Rattle.model.proofs.Sizes.{partition-of-lt}
use Rattle.partition.proofs.part_of_key.Statement.{statement}
use Rattle.partition.proofs.part_of_key.Tie as tie

part-of-requires : tie.Need-part_of-requires
part-of-requires c κs = let s = c.before.before in (s.requires.0, (s.requires.1, rw c.partition_of.ensures (partition-of-lt _ s.requires.0 s.args.key (omega arith))))

returns : tie.Need-returns
returns c = rw (c.part_of.ensures, c.partition_of.ensures)

pub part_of_key_spec : {M : Type 1} → statement M
part_of_key_spec = tie.close (tie.spec (λ c κs. search rules) part-of-requires returns)
