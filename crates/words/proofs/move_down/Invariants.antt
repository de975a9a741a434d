use Rattle.std.proofs.Common.{◌≡◌}
use Rattle.std.proofs.lemmas.List.Edits.{sets}
use Rattle.model.specs.Bytes.{mid}
use Rattle.words.proofs.move_down.Given as goal

-- j bytes are moved, read from where they were at first
abbrev pub invariant-loop-j : goal.invariant-loop-j
invariant-loop-j l = l.s ≡ sets l.fn.s l.to (mid l.from l.j l.fn.s)
