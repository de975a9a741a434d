-- Records of 16 bytes, one after the other, that open with a key: a page's entries behind its head, a delete list's places.
use Rattle.std.specs.Prelude.{ℕ, zero, suc, ◌+◌, ◌-◌, ◌*◌, Bool, cond, List, [], ◌++◌, eqb, Option}
use Rattle.std.proofs.lemmas.List.Edits.{sets}
use Rattle.model.specs.Bytes.{word, mid, zeros}
use Rattle.model.specs.Search.{first_from}

abbrev pub key_at : List ℕ → ℕ → ℕ
key_at xs i = word 8 xs (16 * i)

-- the first of the n records from a on that has the key
abbrev pub first_record : ℕ → ℕ → ℕ → List ℕ → Option ℕ
first_record k n a xs = first_from n a (λ i. eqb (key_at xs i) k)

-- of the n records from a on, how many stay
unfoldable pub staying : (ℕ → Bool) → ℕ → ℕ → ℕ
staying gone zero a = 0
staying gone (suc n) a = cond (gone (a + n)) (staying gone n a) (staying gone n a + 1)

-- and their bytes
unfoldable pub staying_bytes : (ℕ → Bool) → ℕ → ℕ → List ℕ → List ℕ
staying_bytes gone zero a xs = []
staying_bytes gone (suc n) a xs = cond (gone (a + n)) (staying_bytes gone n a xs) (staying_bytes gone n a xs ++ mid (16 * (a + n)) 16 xs)

-- Removed entries close up; vacated places become zero.
unfoldable pub closed_up : (ℕ → Bool) → ℕ → ℕ → List ℕ → List ℕ
closed_up gone n a xs = sets xs (16 * a) (staying_bytes gone n a xs ++ zeros (16 * (n - staying gone n a)))
