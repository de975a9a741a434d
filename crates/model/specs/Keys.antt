-- "From key to partition, page and bits".
-- Document 02: "The page number becomes bits 48 to 63 of the mixed key, as a number, mod Q. This replaces 01's rule everywhere".
use Rattle.std.specs.Prelude.{ℕ, ◌+◌, ◌-◌, ◌*◌, ◌/◌, ◌%◌, ◌^◌}
use Rattle.std.specs.Int.Bits.{bit_or, bit_xor}
use Rattle.model.specs.declared.Geometry.{Geometry}

-- the key's top s bits
unfoldable pub partition_of : Geometry → ℕ → ℕ
partition_of g k = k / 2 ^ (64 - g.parts)

-- Marsaglia's xorshift on 64 bits: left 13, right 7, left 17
abbrev pub xor_left : ℕ → ℕ → ℕ
xor_left n x = bit_xor x (x * 2 ^ n % 2 ^ 64)

abbrev pub xor_right : ℕ → ℕ → ℕ
xor_right n x = bit_xor x (x / 2 ^ n)

unfoldable pub mixed : ℕ → ℕ
mixed k = xor_left 17 (xor_right 7 (xor_left 13 k))

-- bits 48 to 63 of the mixed key, as a number, mod Q
unfoldable pub page_of : Geometry → ℕ → ℕ
page_of g k = mixed k / 2 ^ 48 % g.pages

-- Of the mixed key x, g is the low 32 bits and d the high 32 with the lowest bit set. Bit i is at (g + i × d) mod M.
abbrev pub first_bit : ℕ → ℕ
first_bit x = x % 2 ^ 32

abbrev pub bit_step : ℕ → ℕ
bit_step x = bit_or (x / 2 ^ 32) 1

unfoldable pub bit_of : Geometry → ℕ → ℕ → ℕ
bit_of g x i = (first_bit x + i * bit_step x) % g.bits
