-- Without puts the quotient is that of 0; with some, it is the definition's, by a capacity that is not 0.
use Rattle.std.proofs.Common.{◌≡◌, ◌-◌, arith}
use native.Mathlib.Nat.{zero-div}
use Rattle.model.specs.Card.{most_flushes}
use Rattle.model.proofs.Sizes.{sizes}
use Rattle.card.proofs.most_flushes.Goals as goal

pub returns-then-puts-eq0 : goal.returns-then-puts-eq0
unfolding most_flushes
returns-then-puts-eq0 c = let none : c.args.puts - 1 ≡ 0 = omega arith in rw (none, zero-div)

pub nonzero_div-result : goal.nonzero_div-result
nonzero_div-result c = let z = sizes _ c.requires in omega (arith, c.page_capacity.ensures)

pub returns : goal.returns
unfolding most_flushes
returns c = rw c.page_capacity.ensures
