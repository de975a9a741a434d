-- A filter's bits are a power of two, so the mask takes the remainder.
use Rattle.std.proofs.Common.{arith}
use Rattle.model.specs.Keys.{bit_of}
use Rattle.model.proofs.Powers.{mask}
use Rattle.model.proofs.Sizes.{sizes}
use Rattle.model.proofs.Bits.{bit-room}
use Rattle.filter.proofs.bit_of.Goals as goal

pub returns : goal.returns
unfolding bit_of
returns c = mask 6 16 _ _ (sizes _ c.requires.g_value).bits-test

pub overflow_mul-place : goal.overflow_mul-place
overflow_mul-place c = omega (arith, bit-room _ c.requires.g_value c.args.x _ (omega arith) c.requires.i_lt_hashes)

pub overflow_add-place : goal.overflow_add-place
overflow_add-place c = omega (arith, bit-room _ c.requires.g_value c.args.x _ (omega arith) c.requires.i_lt_hashes)

pub overflow_sub-result : goal.overflow_sub-result
overflow_sub-result c = omega (arith, sizes _ c.requires.g_value)
