-- A page has more than 16 bytes.
use native.Mathlib.Omega.{arith}
use borrow.Author.Rules.{rules}
use Rattle.model.proofs.Sizes.{sizes}
use Rattle.geometry.proofs.page_capacity.Statement.{statement}
use Rattle.geometry.proofs.page_capacity.Tie as tie

sub-result : tie.Need-overflow_sub-result
sub-result c = let z = sizes _ c.requires in omega arith

pub page_capacity_spec : {M : Type 1} → statement M
page_capacity_spec = tie.close (tie.spec sub-result (λ c. search rules) (λ c. search rules))
