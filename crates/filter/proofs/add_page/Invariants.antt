use Rattle.std.proofs.Common.{◌≡◌}
use Rattle.model.specs.Bytes.{mid, within}
use Rattle.model.specs.Geometry.{filter_size}
use Rattle.model.specs.Filter.{with_entries}
use Rattle.filter.proofs.add_page.Given as goal

abbrev pub invariant-loop-entry : goal.invariant-loop-entry
invariant-loop-entry l = l.s ≡ within l.at (filter_size l.g) (with_entries l.g (mid l.page l.g.page l.fn.s) l.entry) l.fn.s
