-- The two tests are the halves of the definition.
use native.Mathlib.Omega.{arith}
use borrow.Author.Rules.{rules}
use Rattle.model.specs.Refusals.{key_overfull}
use Rattle.model.proofs.Sizes.{page-of-lt}
use Rattle.partition.proofs.Inside.{list_inside}
use Rattle.buffer.proofs.is_key_overfull.Statement.{statement}
use Rattle.buffer.proofs.is_key_overfull.Tie as tie

is-page-overfull-requires : tie.Need-is_page_overfull-requires
is-page-overfull-requires c κs = let w = c.requires in (w, rw c.page_of.ensures (page-of-lt _ w.fine _))

returns : tie.Need-returns
unfolding key_overfull
returns c = rw (c.is_page_overfull.ensures, c.page_of.ensures, c.is_overfull.ensures, c.read.ensures)

pub is_key_overfull_spec : {M : Type 1} → statement M
is_key_overfull_spec = tie.close (tie.spec (λ c κs. omega (arith, list_inside _ _ c.requires)) (λ c κs. c.requires.fine) (λ c κs. search rules) is-page-overfull-requires returns)
