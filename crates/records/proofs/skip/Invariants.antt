use Rattle.std.proofs.Common.{◌≡◌, ◌*◌, ◌<◌, ℕ}
use Rattle.std.specs.Prelude.{false}
use Rattle.records.specs.Lacking.{has_key}
use Rattle.records.proofs.skip.Given as goal

-- the blocks before this one lack the key
abbrev pub invariant-loop-block : goal.invariant-loop-block
invariant-loop-block l = (i : ℕ) → i < 4 * l.block → has_key l.key l.at l.s i ≡ false
