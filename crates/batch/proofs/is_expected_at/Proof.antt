-- The page is the part of flash from `at` on.
use native.Mathlib.Omega.{arith}
use borrow.Author.Rules.{rules}
use native.Mathlib.Nat.{add-sub_cancel_left}
use Rattle.model.proofs.Parts.{length-lent}
use Rattle.model.proofs.Sizes.{sizes}
use Rattle.batch.proofs.is_expected_at.Statement.{statement}
use Rattle.batch.proofs.is_expected_at.Tie as tie

is-expected-requires : tie.Need-is_expected-requires
is-expected-requires c κs = let z = sizes _ c.requires.0 in rw (length-lent _ _ _ c.requires.1) (omega arith)

returns : tie.Need-returns
returns c = rw (c.is_expected.ensures, add-sub_cancel_left)

pub is_expected_at_spec : {M : Type 1} → statement M
is_expected_at_spec = tie.close (tie.spec (λ c. search rules) (λ c. search rules) (λ c. search rules) (λ c. search rules) (λ c. search rules) is-expected-requires returns)
