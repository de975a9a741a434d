-- The list is lent as a part, and comes back with the key at its end.
use Rattle.model.proofs.Parts.{lent}
use Rattle.model.proofs.Lengths.{length-enlisted}
use Rattle.partition.proofs.Inside.{list_inside}
use native.Mathlib.Omega.{arith}
use borrow.Author.Rules.{rules}
use Rattle.list.proofs.enlist.Statement.{statement}
use Rattle.list.proofs.enlist.Tie as tie

returns : tie.Need-returns
returns c = let a = c.args in lent 16 _ _ _ _ (list_inside _ _ c.requires.0) (length-enlisted a.n a.key a.stamp) c.enlist.ensures

pub enlist_spec : {M : Type 1} → statement M
enlist_spec = tie.close (tie.spec (λ c. search rules) (λ c. search rules) (λ c. search rules) (λ c. search rules) (λ c. search rules) (λ c. omega (arith, list_inside _ _ c.requires.0)) (λ c κs. search rules) (λ c. search rules) returns)
