-- The two tests are those of `total_out`, and a total with room has room for one entry more in its bytes.
use mathlib.Core.Path.{sym}
use native.Mathlib.Omega.{arith}
use borrow.Author.Rules.{rules}
use borrow.Author.Tests.{le-ltb}
use Rattle.model.specs.Refusals.{total_out}
use Rattle.model.proofs.Sizes.{most-max}
use Rattle.model.proofs.Heads.{head-fits, total-below}
use Rattle.head.proofs.Head.is_total_out.Statement.{statement}
use Rattle.head.proofs.Head.is_total_out.Tie as tie

add_total : tie.Need-overflow_add-total
add_total c = let p = c.requires in omega (arith, most-max _ p.0, (head-fits _ _ p.1.0).total)

returns : tie.Need-returns-then-total-less
returns c = sym (total-below _ _ _ _ (omega arith))

returns-2 : tie.Need-returns
unfolding total_out
returns-2 c = rw (le-ltb _ _ c.if-total-less.false, c.most_entries.ensures)

pub is_total_out_spec : {M : Type 1} → statement M
is_total_out_spec = tie.close (tie.spec add_total returns (λ c κs. search rules) returns-2)
