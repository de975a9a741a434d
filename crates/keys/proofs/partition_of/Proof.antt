-- Two shifts are one by their sum.
use mathlib.Core.Path.{◌≡◌}
use Prim.Native.Nat.{◌+◌, ◌-◌}
use native.Mathlib.Omega.{arith}
use lib.Pow.{shr-shr}
use borrow.Author.Rules.{rules}
use Rattle.model.specs.Keys.{partition_of}
use Rattle.model.proofs.Sizes.{sizes, partition-of-lt}
use Rattle.keys.proofs.partition_of.Statement.{statement}
use Rattle.keys.proofs.partition_of.Tie as tie

returns : tie.Need-returns
unfolding partition_of
returns c = let z = sizes _ c.requires in let e : 1 + (63 - c.args.g.parts) ≡ 64 - c.args.g.parts = omega arith in rw (← e) (shr-shr _ 1 _)

sub-result : tie.Need-overflow_sub-result
sub-result c = let z = sizes _ c.requires in omega arith

cast-result-2 : tie.Need-overflow_cast-result-2
cast-result-2 c = let z = sizes _ c.requires in omega (arith, returns c, partition-of-lt _ c.requires c.args.key (omega arith))

pub partition_of_spec : {M : Type 1} → statement M
partition_of_spec = tie.close (tie.spec sub-result (λ c. search rules) (λ c. search rules) cast-result-2 returns)
