-- The partition is lent as a part of memory, and comes back without its oldest live batch.
use native.Mathlib.Omega.{arith}
use borrow.Author.Rules.{rules}
use Rattle.model.specs.Drop.{dropped}
use Rattle.model.proofs.Lengths.{length-dropped}
use Rattle.partition.proofs.Lending.{Lent, lends}
use Rattle.drop.proofs.apply_at.Statement.{statement}
use Rattle.drop.proofs.apply_at.Tie as tie

lent : (c : tie.After-partition_size) → let a = c.args in Lent a.g a.t a.memory.now c.partition_at-a.result c.partition_size.result
lent c = let p = c.requires in lends _ _ p.0 p.1.0 _ p.1.1.0 _ _ c.partition_at-a.ensures c.partition_size.ensures

apply-requires : tie.Need-apply-requires
apply-requires c κs = let l = lent c.before in (l.whole, rw l.own c.requires.1.1.1)

returns : tie.Need-returns
returns c =
    let a = c.args in
    (lent c.before.before.before.before).back (dropped a.g a.less) (length-dropped a.g a.less) _ c.apply.ensures

pub apply_at_spec : {M : Type 1} → statement M
apply_at_spec = tie.close (tie.spec (λ c κs. search rules) (λ c κs. search rules) (λ c. omega (arith, (lent c).inside)) (λ c. search rules) (λ c. search rules) (λ c. omega (arith, (lent c).inside)) apply-requires (λ c. search rules) returns)
