-- The page is a part of the partition, and its used entries fit it.
use native.Mathlib.Omega.{arith}
use borrow.Author.Rules.{rules}
use Rattle.model.proofs.Sizes.{sizes}
use Rattle.partition.proofs.Inside.{LentPage, lends-page}
use Rattle.buffer.proofs.find.Statement.{statement}
use Rattle.buffer.proofs.find.Tie as tie

lent : (c : tie.After-struct_known-1) → let a = c.args in LentPage a.g a.q a.part.now c.buffer_at-a.result
lent c = let s = c.before.before.before in lends-page _ _ s.requires.0 _ _ s.requires.1.0 c.buffer_at-a.ensures

search-requires : tie.Need-search-requires
search-requires c κs =
    let s = c.before.before.before.before in
    let z = sizes _ s.requires.0.fine in
    let l = lent c.before in
    rw (l.own, l.long) (omega arith)

returns : tie.Need-returns
returns c = rw (c.search.ensures, (lent c.before.before).own)

pub find_spec : {M : Type 1} → statement M
find_spec = tie.close (tie.spec (λ c κs. search rules) (λ c. search rules) (λ c. omega (arith, (lent c).inside)) (λ c. search rules) (λ c. search rules) (λ c. omega (arith, (lent c).inside)) search-requires returns)
