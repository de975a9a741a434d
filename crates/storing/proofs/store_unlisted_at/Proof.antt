-- The key's partition is lent as a part of memory, and comes back with the key's value and its total.
use Prim.Native.Nat.{ℕ}
use mathlib.Core.List.{List}
use mathlib.Core.Path.{◌≡◌, ◌∙◌}
use native.Mathlib.Omega.{arith}
use lib.ListN.{length}
use borrow.Author.Rules.{rules}
use Rattle.model.specs.declared.Geometry.{Geometry}
use Rattle.model.specs.Keys.{partition_of}
use Rattle.model.specs.Partition.{totalled}
use Rattle.model.specs.Put.{appends, unlisted, buffered}
use Rattle.model.proofs.Lengths.{length-totalled, length-unlisted, length-buffered}
use Rattle.partition.proofs.Lending.{Lent, lends-key}
use Rattle.storing.proofs.store_unlisted_at.Statement.{statement}
use Rattle.storing.proofs.store_unlisted_at.Tie as tie

lent : (c : tie.After-partition_size) → let a = c.args in Lent a.g (partition_of a.g a.key) a.memory.now c.key_partition_at-a.result c.partition_size.result
lent c = let s = c.before.before.before in lends-key _ _ s.requires.0 s.requires.1.0 s.args.key (omega arith) _ _ c.key_partition_at-a.ensures c.partition_size.ensures

store-unlisted-requires : tie.Need-store_unlisted-requires
store-unlisted-requires c κs = let l = lent c.before in let p = c.requires in (l.whole, rw l.own (p.1.1.0, p.1.1.1))

length-stored : (g : Geometry) (k v less : ℕ) (p : List ℕ) → length (totalled (appends g k p) less (unlisted g k (buffered g k v p))) ≡ length p
length-stored g k v less p = length-totalled _ less _ ∙ length-unlisted g k _ ∙ length-buffered g k v p

returns : tie.Need-returns
returns c =
    let a = c.args in
    (lent c.before.before.before.before).back _ (length-stored a.g a.key a.value a.less) _ c.store_unlisted.ensures

pub store_unlisted_at_spec : {M : Type 1} → statement M
store_unlisted_at_spec = tie.close (tie.spec (λ c κs. search rules) (λ c κs. search rules) (λ c. omega (arith, (lent c).inside)) (λ c. search rules) (λ c. search rules) (λ c. omega (arith, (lent c).inside)) store-unlisted-requires (λ c. search rules) returns)
