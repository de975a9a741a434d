-- Both bounds are those of `is_live`.
use Prim.Native.Nat.{◌-◌, ◌≤◌, ◌<◌}
use native.Mathlib.Omega.{arith}
use borrow.Author.Tests.{lt-ltb, le-ltb}
use Rattle.model.specs.Partition.{is_live}
use Rattle.head.proofs.Head.is_live.Statement.{statement}
use Rattle.head.proofs.Head.is_live.Tie as tie

sub-dead : tie.Need-overflow_sub-dead
sub-dead c = omega (arith, c.requires)

returns : tie.Need-returns-then-n-dead
unfolding is_live
returns c =
    let a = c.args in
    let dead : a.n ≤ a.self.flushes - a.self.live = omega arith in
    rw (le-ltb _ _ dead)

returns-2 : tie.Need-returns
unfolding is_live
returns-2 c =
    let a = c.args in
    let late : a.self.flushes - a.self.live < a.n = omega arith in
    rw (lt-ltb _ _ late)

pub is_live_spec : {M : Type 1} → statement M
is_live_spec = tie.close (tie.spec sub-dead returns returns-2)
