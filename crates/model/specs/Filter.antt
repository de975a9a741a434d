-- Bloom filters. "Bit b is bit b mod 8 of byte b / 8, counted from the lowest." "A filter has exactly the bits of its batch's entries and is made at the flush."
use Rattle.std.specs.Prelude.{ℕ, zero, suc, ◌+◌, ◌/◌, ◌%◌, ◌^◌, Bool, not, List, eqb, get_or, set}
use Rattle.std.specs.Int.Bits.{bit_or}
use Rattle.model.specs.Bytes.{zeros}
use Rattle.model.specs.Search.{any_from}
use Rattle.model.specs.Keys.{mixed, bit_of}
use Rattle.model.specs.Records.{key_at}
use Rattle.model.specs.Page.{count_of}
use Rattle.model.specs.Geometry.{filter_size}
use Rattle.model.specs.declared.Geometry.{Geometry}

abbrev pub bit_at : List ℕ → ℕ → ℕ
bit_at f b = get_or f (b / 8) 0 / 2 ^ (b % 8) % 2

-- which bits of a filter are set
abbrev pub is_set : List ℕ → ℕ → Bool
is_set f b = eqb (bit_at f b) 1

unfoldable pub with_bit : ℕ → List ℕ → List ℕ
with_bit b f = set f (b / 8) (bit_or (get_or f (b / 8) 0) (2 ^ (b % 8)))

-- a filter with these bits passes a key, x when mixed, that misses none of its h bits
unfoldable pub passes : Geometry → ℕ → (ℕ → Bool) → Bool
passes g x bits = not (any_from g.hashes 0 (λ i. not (bits (bit_of g x i))))

-- the bits 0 to i − 1 of a mixed key set
unfoldable pub with_bits : Geometry → ℕ → ℕ → List ℕ → List ℕ
with_bits g x zero f = f
with_bits g x (suc i) f = with_bit (bit_of g x i) (with_bits g x i f)

-- the bits of the first i entries of a page
unfoldable pub with_entries : Geometry → List ℕ → ℕ → List ℕ → List ℕ
with_entries g p zero f = f
with_entries g p (suc i) f = with_bits g (mixed (key_at p (i + 1))) g.hashes (with_entries g p i f)

-- of the used entries of the pages 0 to q − 1
unfoldable pub with_pages : Geometry → (ℕ → List ℕ) → ℕ → List ℕ → List ℕ
with_pages g page zero f = f
with_pages g page (suc q) f = with_entries g (page q) (count_of (page q)) (with_pages g page q f)

-- the filter of the batch that these pages are
unfoldable pub filter_for : Geometry → (ℕ → List ℕ) → List ℕ
filter_for g page = with_pages g page g.pages (zeros (filter_size g))
