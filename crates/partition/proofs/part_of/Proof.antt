-- The part that begins and ends as the partition does is the partition.
use native.Mathlib.Omega.{arith}
use borrow.Author.Rules.{rules}
use Rattle.partition.proofs.Lending.{Lent, lends}
use Rattle.partition.proofs.part_of.Statement.{statement}
use Rattle.partition.proofs.part_of.Tie as tie

lent : (c : tie.After-partition_size) → let a = c.args in Lent a.g a.t a.memory.now c.partition_at-a.result c.partition_size.result
lent c = let s = c.before.before.before in lends _ _ s.requires.0 s.requires.1.0 _ s.requires.1.1 _ _ c.partition_at-a.ensures c.partition_size.ensures

pub part_of_spec : {M : Type 1} → statement M
part_of_spec = tie.close (tie.spec (λ c κs. search rules) (λ c κs. search rules) (λ c. omega (arith, (lent c).inside)) (λ c. search rules) (λ c. search rules) (λ c. omega (arith, (lent c).inside)) (λ c. (lent c.before).own))
