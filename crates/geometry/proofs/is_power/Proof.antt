-- A number above 0 that has no digit in common with the one before it is a power of two.
use mathlib.Core.Path.{sym}
use native.Mathlib.Omega.{arith}
use lib.Pow.{pow_pos, pow_mono}
use borrow.Author.Rules.{rules}
use Rattle.model.proofs.Powers.{no_power, power-and, power-test, one_shifted}
use Rattle.geometry.proofs.is_power.Statement.{statement}
use Rattle.geometry.proofs.is_power.Tie as tie

returns : tie.Need-returns-then-n-low
returns c = sym (no_power _ _ _ (λ k l h e. omega (arith, pow_mono l, one_shifted 32 c.args.low (omega arith))))

sub-if2 : tie.Need-overflow_sub-n
sub-if2 c = let low = c.args.low in omega (arith, pow_pos low, one_shifted 32 low (omega arith))

returns-2 : tie.Need-returns-then-n-ne0
returns-2 c = sym (no_power _ _ _ (λ k l h e. c.if-n-ne0.true (rw e (power-and k))))

returns-3 : tie.Need-returns
returns-3 c =
    let a = c.args in
    rw (one_shifted 32 a.high (omega arith))
    (sym (power-test _ _ _ (omega (arith, pow_pos a.low, one_shifted 32 a.low (omega arith))) c.if-n-ne0.false (omega (arith, one_shifted 32 a.low (omega arith)))))

pub is_power_spec : {M : Type 1} → statement M
is_power_spec = tie.close (tie.spec (λ c. search rules) returns sub-if2 returns-2 (λ c. search rules) returns-3)
