use Rattle.std.proofs.Common.{arith}
use Rattle.model.proofs.Sizes.{sizes}
use Rattle.partition.proofs.Inside.{lends-page}
use Rattle.buffer.proofs.search.Goals as goal

pub overflow_add-e : goal.overflow_add-e
overflow_add-e c = omega (arith, (lends-page _ _ c.requires.whole _ _ c.requires.q_lt_pages c.buffer_at-a.ensures).inside)

pub slice_bounds-search-end : goal.slice_bounds-search-end
slice_bounds-search-end c = omega (arith, (lends-page _ _ c.requires.whole _ _ c.requires.q_lt_pages c.buffer_at-a.ensures).inside)

pub search-requires : goal.search-requires
search-requires c =
    let z = sizes _ c.requires.whole.fine in
    let l = lends-page _ _ c.requires.whole _ _ c.requires.q_lt_pages c.buffer_at-a.ensures in
    rw (l.own, l.long) (omega arith, omega arith)

pub returns : goal.returns
returns c = rw (← (lends-page _ _ c.requires.whole _ _ c.requires.q_lt_pages c.buffer_at-a.ensures).own) c.search.ensures
