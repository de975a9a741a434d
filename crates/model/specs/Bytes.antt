-- "Bytes, little-endian": numbers in lists of bytes, and parts of such lists.
--     word n xs at        the number whose n bytes stand in xs from `at` on, lowest first
--     write n v at xs     xs with the n lowest bytes of v written from `at` on
--     mid a n xs          the n elements from a on
--     within a n f xs     xs with f done to the n elements from a on: its length, and what lies outside of those n, is as it was, whatever f is
use Rattle.std.specs.Prelude.{ℕ, zero, suc, ◌+◌, ◌*◌, ◌/◌, ◌%◌, List, [], ◌∷◌, get_or, take, drop, replicate}
use Rattle.std.proofs.lemmas.List.Edits.{sets}

unfoldable pub word : ℕ → List ℕ → ℕ → ℕ
word zero xs at = 0
word (suc n) xs at = get_or xs at 0 + 256 * word n xs (at + 1)

unfoldable pub bytes_of : ℕ → ℕ → List ℕ
bytes_of zero v = []
bytes_of (suc n) v = (v % 256) ∷ bytes_of n (v / 256)

unfoldable pub write : ℕ → ℕ → ℕ → List ℕ → List ℕ
write n v at xs = sets xs at (bytes_of n v)

abbrev pub zeros : ℕ → List ℕ
zeros n = replicate n 0

abbrev pub mid : ℕ → ℕ → List ℕ → List ℕ
mid a n xs = take n (drop a xs)

unfoldable pub within : ℕ → ℕ → (List ℕ → List ℕ) → List ℕ → List ℕ
within a n f xs = sets xs a (take n (f (mid a n xs)))
