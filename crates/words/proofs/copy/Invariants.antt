use Rattle.std.proofs.Common.{◌≡◌, ◌*◌}
use Rattle.std.proofs.lemmas.List.Edits.{sets}
use Rattle.model.specs.Bytes.{mid}
use Rattle.words.proofs.copy.Given as goal

-- that many blocks are copied
abbrev pub invariant-loop-block : goal.invariant-loop-block
invariant-loop-block l = l.dst ≡ sets l.fn.dst l.at (mid l.from (64 * l.block) l.src)
