-- The list of deleted keys, BufferHash's delete list: places of 16 bytes (key 8, stamp 4, zero 4), of which the first n are used.
-- A stamp is the number of the youngest batch that could hold the key when it was deleted.
use Rattle.std.specs.Prelude.{ℕ, ◌+◌, ◌*◌, Bool, List, eqb, Option}
use Rattle.model.specs.Bytes.{word, write}
use Rattle.model.specs.Records.{first_record, staying, closed_up}

abbrev pub stamp_at : List ℕ → ℕ → ℕ
stamp_at l i = word 4 l (16 * i + 8)

-- the first list entry of the key
abbrev pub listed_at : ℕ → ℕ → List ℕ → Option ℕ
listed_at n k l = first_record k n 0 l

-- listed last
unfoldable pub enlisted : ℕ → ℕ → ℕ → List ℕ → List ℕ
enlisted n k stamp l = write 4 0 (16 * n + 12) (write 4 stamp (16 * n + 8) (write 8 k (16 * n) l))

-- entry i removed
unfoldable pub struck : ℕ → ℕ → List ℕ → List ℕ
struck i n l = closed_up (eqb i) n 0 l

-- stamped F + 1 − back, as integers
abbrev pub expiring : ℕ → ℕ → List ℕ → ℕ → Bool
expiring back flushes l i = eqb (stamp_at l i + back) (flushes + 1)

-- the list without those entries, and how many it has then
unfoldable pub expired : ℕ → ℕ → ℕ → List ℕ → List ℕ
expired back flushes n l = closed_up (expiring back flushes l) n 0 l

unfoldable pub unexpired : ℕ → ℕ → ℕ → List ℕ → ℕ
unexpired back flushes n l = staying (expiring back flushes l) n 0
