-- Some batch is kept, so the divisor is not 0.
use native.Mathlib.Omega.{arith}
use borrow.Author.Rules.{rules}
use Rattle.geometry.proofs.slot_of.Statement.{statement}
use Rattle.geometry.proofs.slot_of.Tie as tie
use Rattle.model.proofs.Sizes.{sizes}

rem-result : tie.Need-nonzero_rem-result
rem-result c = let z = sizes _ c.requires.0 in omega arith

pub slot_of_spec : {M : Type 1} → statement M
slot_of_spec = tie.close (tie.spec (λ c. search rules) rem-result (λ c. search rules))
