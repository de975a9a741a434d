use Rattle.std.proofs.Common.{◌≡◌, ◌-◌}
use Rattle.model.specs.Flush.{in_use}
use Rattle.model.specs.Search.{first_from, is_some}
use Rattle.buffer.proofs.Used.{used}
use Rattle.buffer.proofs.is_in_use.Given as goal

-- the answer is that from page q on
abbrev pub invariant-loop-q : goal.invariant-loop-q
invariant-loop-q l = in_use l.g l.part ≡ is_some (first_from (l.g.pages - l.q) l.q (used l.g l.part))
