-- The list is lent as a part, and comes back struck.
use Rattle.model.proofs.Parts.{lent}
use Rattle.model.proofs.Lengths.{length-struck}
use Rattle.partition.proofs.Inside.{list_inside}
use native.Mathlib.Omega.{arith}
use borrow.Author.Rules.{rules}
use Rattle.list.proofs.strike.Statement.{statement}
use Rattle.list.proofs.strike.Tie as tie

part-strike-end : tie.Need-slice_bounds-strike-end
part-strike-end c = omega (arith, list_inside _ _ c.requires.0)

returns : tie.Need-returns
returns c = let a = c.args in lent 16 _ _ _ _ (list_inside _ _ c.requires.0) (length-struck a.i a.n) c.strike.ensures

pub strike_spec : {M : Type 1} → statement M
strike_spec = tie.close (tie.spec (λ c. search rules) (λ c. search rules) (λ c. search rules) (λ c. search rules) (λ c. search rules) part-strike-end (λ c κs. search rules) (λ c. search rules) returns)
