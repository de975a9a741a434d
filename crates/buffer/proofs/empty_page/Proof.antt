-- The page is lent as a part, and comes back empty.
use native.Mathlib.Omega.{arith}
use borrow.Author.Rules.{rules}
use Rattle.model.specs.Page.{emptied}
use Rattle.model.proofs.Lengths.{length-emptied}
use Rattle.model.proofs.Sizes.{sizes}
use Rattle.partition.proofs.Inside.{LentPage, lends-page}
use Rattle.buffer.proofs.empty_page.Statement.{statement}
use Rattle.buffer.proofs.empty_page.Tie as tie

lent : (c : tie.After-struct_known-1) → let a = c.args in LentPage a.g a.q a.part.now c.buffer_at-a.result
lent c = let s = c.before.before.before in lends-page _ _ s.requires.0 _ _ s.requires.1.1 c.buffer_at-a.ensures

cast-empty : tie.Need-overflow_cast-q
cast-empty c = let z = sizes _ c.requires.0.fine in omega arith

cast-empty-2 : tie.Need-overflow_cast-t
cast-empty-2 c = let z = sizes _ c.requires.0.fine in omega arith

empty-requires : tie.Need-empty-requires
empty-requires c κs = let z = sizes _ c.requires.0.fine in let l = lent c.before in rw (l.own, l.long) (omega arith)

returns : tie.Need-returns
returns c = let a = c.args in (lent c.before.before.before.before).back (emptied a.q a.t) (length-emptied a.q a.t) _ c.empty.ensures

pub empty_page_spec : {M : Type 1} → statement M
empty_page_spec = tie.close (tie.spec (λ c κs. search rules) (λ c. omega arith) (λ c. omega (arith, (lent c).inside)) (λ c. omega arith) (λ c. omega arith) (λ c. omega (arith, (lent c).inside)) cast-empty cast-empty-2 empty-requires (λ c. search rules) returns)
