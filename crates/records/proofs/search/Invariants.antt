use Rattle.std.proofs.Common.{◌≡◌, ◌+◌, ◌-◌}
use Rattle.model.specs.Records.{first_record}
use Rattle.records.proofs.search.Given as goal

-- the answer is that of a search from record i on
abbrev pub invariant-loop-i : goal.invariant-loop-i
invariant-loop-i l = first_record l.key l.n l.from l.s ≡ first_record l.key (l.from + l.n - l.i) l.i l.s
