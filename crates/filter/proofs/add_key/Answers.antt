-- Each turn sets one of the key's bits.
use Rattle.std.proofs.Common.{refl, sym, arith}
use Rattle.model.specs.Filter.{with_bits}
use Rattle.model.proofs.Parts.{within-id}
use Rattle.model.proofs.Bits.{bit_byte, bit_added}
use Rattle.filter.proofs.add_key.Goals as goal

pub loop-bit-init : goal.loop-bit-init
unfolding with_bits
loop-bit-init c = sym (within-id _ _ _ _ c.requires.g_in_bounds refl)

pub bounds-s-byte : goal.bounds-s-byte
bounds-s-byte c = omega (arith, bit_byte _ c.requires.g_value _ _ c.loop-bit-test.true c.bit_of-b.ensures)

pub bounds-s-byte-in-loop-bit : goal.bounds-s-byte-in-loop-bit
bounds-s-byte-in-loop-bit c = omega (arith, bit_byte _ c.requires.g_value _ _ c.loop-bit-test.true c.bit_of-b.ensures)

pub loop-bit-preserved : goal.loop-bit-preserved
loop-bit-preserved c = bit_added _ c.requires.g_value _ _ c.loop-bit-test.true c.bit_of-b.ensures _ _ _ c.requires.g_in_bounds c.loop-bit.invariant
