-- The partition is lent as a part of memory, and comes back with the page emptied.
use native.Mathlib.Omega.{arith}
use borrow.Author.Rules.{rules}
use Rattle.model.specs.Bytes.{within}
use Rattle.model.specs.Geometry.{buffer_at}
use Rattle.model.specs.Page.{emptied}
use Rattle.model.proofs.Parts.{length-within}
use Rattle.partition.proofs.Lending.{Lent, lends}
use Rattle.flushing.proofs.empty_page_at.Statement.{statement}
use Rattle.flushing.proofs.empty_page_at.Tie as tie

abbrev start : tie.After-partition_size → tie.Start
start c = c.before.before.before

lent : (c : tie.After-partition_size) → let a = (start c).args in Lent a.g a.t a.memory.now c.partition_at-a.result c.partition_size.result
lent c = let p = (start c).requires in lends _ _ p.0 p.1.0 _ p.1.1.0 _ _ c.partition_at-a.ensures c.partition_size.ensures

returns : tie.Need-returns
returns c =
    let s = c.before.before.before.before in
    let a = (start s).args in
    (lent s).back (within (buffer_at a.g a.q) a.g.page (emptied a.q a.t)) (length-within (buffer_at a.g a.q) a.g.page (emptied a.q a.t)) _ c.empty_page.ensures

pub empty_page_at_spec : {M : Type 1} → statement M
empty_page_at_spec =
    tie.close (tie.spec (λ c κs. search rules) (λ c κs. search rules) (λ c. omega (arith, (lent c).inside)) (λ c. search rules) (λ c. search rules) (λ c. omega (arith, (lent c).inside))
    (λ c κs. let p = (start c.before).requires in ((lent c.before).whole, (p.1.1.0, p.1.1.1))) (λ c. search rules) returns)
