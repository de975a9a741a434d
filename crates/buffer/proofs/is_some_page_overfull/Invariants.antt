use Rattle.std.proofs.Common.{◌≡◌, ◌-◌}
use Rattle.model.specs.Search.{first_from, is_some}
use Rattle.model.specs.Refusals.{page_overfull, some_page_overfull}
use Rattle.buffer.proofs.is_some_page_overfull.Given as goal

-- the answer is that from page q on
abbrev pub invariant-loop-q : goal.invariant-loop-q
invariant-loop-q l = some_page_overfull l.g l.part ≡ is_some (first_from (l.g.pages - l.q) l.q (page_overfull l.g l.part))
