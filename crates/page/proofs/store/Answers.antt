use Rattle.std.proofs.Common.{arith, refl, sym, ◌∙◌}
use Rattle.model.specs.Page.{stored, added}
use Rattle.model.proofs.Searching.{first-at}
use Rattle.page.proofs.store.Goals as goal

pub replace-requires : goal.replace-requires
replace-requires c = let w = first-at _ _ _ _ (sym c.search.ensures ∙ c.in-Some.is) in omega arith

pub returns-in-Some : goal.returns-in-Some
unfolding stored added
returns-in-Some c = rw (sym c.search.ensures ∙ c.in-Some.is) (c.replace.ensures, refl)

pub returns-in-None : goal.returns-in-None
unfolding stored added
returns-in-None c = rw (sym c.search.ensures ∙ c.in-None.is) (c.append.ensures, refl)
