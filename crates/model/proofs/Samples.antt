-- Definitions computed at a few numbers: what no law here says of them.
use mathlib.Core.Path.{◌≡◌, refl}
use Prim.Native.Nat.{◌+◌, ◌^◌}
use Rattle.model.specs.Bytes.{word, bytes_of, write, zeros}
use Rattle.model.specs.Search.{first_from}
use Rattle.model.specs.Geometry.{geometry, G, filter_at, buffer_at, stride, partition_at, memory_need, slot_page_at, flash_need}
use Rattle.model.specs.Opening.{geometry_of, with_opening}
use Rattle.model.specs.Keys.{partition_of, page_of, mixed, bit_of}
use Rattle.model.specs.Records.{staying, staying_bytes, closed_up}
use Rattle.model.specs.Page.{appended, replaced, removed, stored, without}
use Rattle.model.specs.Partition.{Head, head_of, with_head}
use Rattle.model.specs.declared.Geometry.{Geometry}

-- a geometry with no two numbers alike
abbrev H : Geometry
H = geometry 1 128 4 3 256 2 5

needs : (memory_need G ≡ 144) × (flash_need G ≡ 128) × (memory_need H ≡ 1440) × (flash_need H ≡ 3072)
unfolding memory_need flash_need partition_at stride buffer_at filter_at
needs = (refl, refl, refl, refl)

-- page 2 of slot 1 of partition 1
slot-page : slot_page_at H 1 1 2 ≡ 2304
unfolding slot_page_at
slot-page = refl

mixing : (mixed 1 ≡ 0x40822041) × (mixed 2 ≡ 0x81044082)
unfolding mixed
mixing = (refl, refl)

bits : (bit_of G (mixed 1) 0 ≡ 1) × (bit_of G (mixed 1) 1 ≡ 2) × (bit_of G (mixed 1) 2 ≡ 3)
unfolding mixed bit_of
bits = (refl, refl, refl)

-- the key's top bit; and its bit 19, which the mixing takes to bit 49
places : (partition_of H (2 ^ 63) ≡ 1) × (page_of H (2 ^ 19 + 7) ≡ 2)
unfolding partition_of page_of mixed
places = (refl, refl)

opening : geometry_of (with_opening H (zeros 32)) ≡ H
unfolding geometry_of with_opening word write bytes_of
opening = refl

-- all 16 bytes of a head
abbrev some_head : Head
some_head = record { flushes = 1; listed = 2; total = 3; live = 4 }

head : head_of (with_head some_head (zeros 16)) ≡ some_head
unfolding with_head word write bytes_of
head = refl

-- vacated places become zero
vacated : without 1 (stored 1 10 (zeros 64)) ≡ zeros 64
unfolding without stored appended replaced removed first_from closed_up staying staying_bytes word write bytes_of
vacated = refl
