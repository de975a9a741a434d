-- The sum is the number by definition, and no allowed one is large.
use Rattle.std.proofs.Common.{arith}
use Rattle.model.specs.Card.{first_lost}
use Rattle.model.proofs.Sizes.{sizes, lost-max}
use Rattle.card.proofs.first_lost.Goals as goal

pub overflow_add-result : goal.overflow_add-result
overflow_add-result c = let z = sizes _ c.requires in omega arith

pub overflow_mul-result : goal.overflow_mul-result
unfolding first_lost
overflow_mul-result c = rw c.page_capacity.ensures (omega (arith, lost-max _ c.requires))

pub overflow_add-result-2 : goal.overflow_add-result-2
unfolding first_lost
overflow_add-result-2 c = rw c.page_capacity.ensures (omega (arith, lost-max _ c.requires))

pub returns : goal.returns
unfolding first_lost
returns c = rw c.page_capacity.ensures
