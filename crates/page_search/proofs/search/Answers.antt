-- The place of the entry that the search found, or how many there are, is what it compared.
use Rattle.std.proofs.Common.{◌≡◌, refl, sym, arith}
use Rattle.model.specs.Page.{count_of, compared}
use Rattle.model.proofs.Lookup.{compared_at_lem, compared-most}
use Rattle.page_search.proofs.search.Goals as goal

pub overflow_cast-tally : goal.overflow_cast-tally
overflow_cast-tally c =
    let n : compared c.args.key c.args.page.now ≡ c.in-Some.i = compared_at_lem _ _ _ (sym c.in-Some.ensures) in
    omega (arith, n, compared-most c.args.key c.args.page.now, c.requires)

pub overflow_add-tally : goal.overflow_add-tally
overflow_add-tally c =
    let n : compared c.args.key c.args.page.now ≡ c.in-Some.i = compared_at_lem _ _ _ (sym c.in-Some.ensures) in
    omega (arith, n, compared-most c.args.key c.args.page.now, c.requires)

pub returns-in-Some : goal.returns-in-Some
returns-in-Some c =
    let n : compared c.args.key c.args.page.now ≡ c.in-Some.i = compared_at_lem _ _ _ (sym c.in-Some.ensures) in
    (c.in-Some.ensures, refl, omega (arith, n))

pub returns-in-None : goal.returns-in-None
returns-in-None c =
    let n : compared c.args.key c.args.page.now ≡ count_of c.args.page.now = compared_at_lem _ _ _ (sym c.in-None.ensures) in
    (c.in-None.ensures, refl, omega (arith, n, c.count-entries.ensures))
