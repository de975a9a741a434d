use Rattle.std.proofs.Common.{arith, refl, sym, ◌∙◌}
use Rattle.model.specs.Page.{without, taken}
use Rattle.model.proofs.Searching.{first-at}
use Rattle.page.proofs.drop_key.Goals as goal

pub remove-requires-clause-le_i : goal.remove-requires-clause-le_i
remove-requires-clause-le_i c = let w = first-at _ _ _ _ (sym c.search.ensures ∙ c.in-Some.is) in omega arith

pub remove-requires-clause-i_bound : goal.remove-requires-clause-i_bound
remove-requires-clause-i_bound c = let w = first-at _ _ _ _ (sym c.search.ensures ∙ c.in-Some.is) in omega arith

pub returns-in-Some : goal.returns-in-Some
unfolding without taken
returns-in-Some c = rw (sym c.search.ensures ∙ c.in-Some.is) (c.remove.ensures, refl)

pub returns-in-None : goal.returns-in-None
unfolding without taken
returns-in-None c = rw (sym c.search.ensures ∙ c.in-None.is) (refl, refl)
