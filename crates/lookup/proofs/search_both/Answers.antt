-- Each arm answers as `hit_in` does for the answer of the search, with what it compared; an entry that is found is a used one.
use Rattle.std.proofs.Common.{◌≤◌, arith, sym}
use Rattle.model.specs.Geometry.{capacity}
use Rattle.model.specs.Page.{count_of}
use Rattle.model.specs.Partition.{buffer_of}
use Rattle.model.proofs.Checks.{key_fits}
use Rattle.model.proofs.Lookup.{compared-most}
use Rattle.model.proofs.Searching.{first-at}
use Rattle.model.proofs.Sizes.{sizes, page-of-lt}
use Rattle.lookup.proofs.search_both.Goals as goal

pub search-requires-clause-q_lt_pages : goal.search-requires-clause-q_lt_pages
search-requires-clause-q_lt_pages c = rw c.page_of-q.ensures (page-of-lt _ c.requires.whole.fine _)

pub search-requires-clause-q_bound : goal.search-requires-clause-q_bound
search-requires-clause-q_bound c = rw c.page_of-q.ensures (key_fits _ _ _ c.requires.part_value).1

pub value-requires-clause-q_lt_pages : goal.value-requires-clause-q_lt_pages
value-requires-clause-q_lt_pages c = rw c.page_of-q.ensures (page-of-lt _ c.requires.whole.fine _)

pub value-requires-clause-i_bound : goal.value-requires-clause-i_bound
value-requires-clause-i_bound c =
    let a = c.args in
    let z = sizes _ c.requires.whole.fine in
    let fits : count_of (buffer_of a.g a.part.now c.page_of-q.result) ≤ capacity a.g = rw c.page_of-q.ensures (key_fits _ _ _ c.requires.part_value).1 in
    let used = first-at _ _ _ _ (sym c.in-Some.ensures.0) in
    omega (arith, fits, used)

pub read_through-requires-clause-part_value : goal.read_through-requires-clause-part_value
read_through-requires-clause-part_value c = (key_fits _ _ _ c.requires.part_value).0

pub read_through-requires-clause-comparisons_bound : goal.read_through-requires-clause-comparisons_bound
read_through-requires-clause-comparisons_bound c =
    let a = c.args in
    let page = buffer_of a.g a.part.now c.page_of-q.result in
    let fits : count_of page ≤ capacity a.g = rw c.page_of-q.ensures (key_fits _ _ _ c.requires.part_value).1 in
    omega (arith, fits, compared-most a.key page)
