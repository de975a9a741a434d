use Rattle.std.proofs.Common.{◌≡◌}
use Rattle.std.specs.Prelude.{take}
use Rattle.std.proofs.lemmas.List.Edits.{sets}
use Rattle.printer.proofs.write_text.Given as goal

-- the first i bytes stand from `at` on
abbrev pub invariant-loop-i : goal.invariant-loop-i
invariant-loop-i l = l.out ≡ sets l.fn.out l.at (take l.i l.bytes)
