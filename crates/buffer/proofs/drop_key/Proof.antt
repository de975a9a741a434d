-- The key's page is lent as a part, and comes back without the key's first entry.
use mathlib.Core.Path.{◌∙◌, ap}
use native.Mathlib.Omega.{arith}
use borrow.Author.Rules.{rules}
use Rattle.model.specs.Keys.{page_of}
use Rattle.model.specs.Page.{without, taken}
use Rattle.model.specs.Del.{unbuffered}
use Rattle.model.proofs.Lengths.{length_without}
use Rattle.model.proofs.Sizes.{sizes, page-of-lt}
use Rattle.model.proofs.Checks.{key_fits}
use Rattle.partition.proofs.Inside.{LentPage, lends-page}
use Rattle.buffer.proofs.drop_key.Statement.{statement}
use Rattle.buffer.proofs.drop_key.Tie as tie

lent : (c : tie.After-struct_known-1) → let a = c.args in LentPage a.g (page_of a.g a.key) a.part.now c.page_at-a.result
lent c = let s = c.before.before.before in lends-page _ _ s.requires.0 _ _ (page-of-lt _ s.requires.0.fine _) c.page_at-a.ensures

drop-key-requires : tie.Need-drop_key-requires
drop-key-requires c κs =
    let s = c.before.before.before.before in
    let z = sizes _ s.requires.0.fine in
    let l = lent c.before in
    let fits = key_fits _ _ _ s.requires.1 in
    rw (l.own, l.long) (omega (arith, fits))

returns : tie.Need-returns
unfolding unbuffered
returns c =
    let a = c.args in
    let l = lent c.before.before.before.before in
    let r = c.drop_key.ensures in
    (l.back (without a.key) (length_without a.key) _ r.0, r.1 ∙ ap (taken a.key) l.own)

pub drop_key_spec : {M : Type 1} → statement M
drop_key_spec = tie.close (tie.spec (λ c κs. c.requires.0.fine) (λ c. search rules) (λ c. omega (arith, (lent c).inside)) (λ c. search rules) (λ c. search rules) (λ c. omega (arith, (lent c).inside)) drop-key-requires (λ c. search rules) returns)
