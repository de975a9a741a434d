-- The key's page is lent as a part, and comes back with the value.
use mathlib.Core.Path.{◌∙◌, ap}
use native.Mathlib.Omega.{arith}
use borrow.Author.Rules.{rules}
use Rattle.model.specs.Keys.{page_of}
use Rattle.model.specs.Page.{stored, added}
use Rattle.model.specs.Put.{appends, buffered}
use Rattle.model.proofs.Lengths.{length-stored}
use Rattle.model.proofs.Sizes.{sizes, page-of-lt}
use Rattle.model.proofs.Checks.{key_fits}
use Rattle.partition.proofs.Inside.{LentPage, lends-page}
use Rattle.buffer.proofs.store.Statement.{statement}
use Rattle.buffer.proofs.store.Tie as tie

lent : (c : tie.After-struct_known-1) → let a = c.args in LentPage a.g (page_of a.g a.key) a.part.now c.page_at-a.result
lent c = let s = c.before.before.before in lends-page _ _ s.requires.0 _ _ (page-of-lt _ s.requires.0.fine _) c.page_at-a.ensures

store-requires : tie.Need-store-requires
store-requires c κs =
    let s = c.before.before.before.before in
    let z = sizes _ s.requires.0.fine in
    let l = lent c.before in
    let fits = key_fits _ _ _ s.requires.1.fits in
    rw (l.own, l.long) (omega (arith, fits), ((λ n. omega (arith, s.requires.1.room n)), omega arith))

returns : tie.Need-returns
unfolding buffered appends
returns c =
    let a = c.args in
    let l = lent c.before.before.before.before in
    let r = c.store.ensures in
    (l.back (stored a.key a.value) (length-stored a.key a.value) _ r.0, r.1 ∙ ap (added a.key) l.own)

pub store_spec : {M : Type 1} → statement M
store_spec = tie.close (tie.spec (λ c κs. c.requires.0.fine) (λ c. search rules) (λ c. omega (arith, (lent c).inside)) (λ c. search rules) (λ c. search rules) (λ c. omega (arith, (lent c).inside)) store-requires (λ c. search rules) returns)
