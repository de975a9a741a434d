-- The history of a few lists of calls, and the count after them, computed.
use Prim.Native.Nat.{ℕ, ◌^◌}
use mathlib.Core.Path.{◌≡◌, refl}
use mathlib.Core.List.{List, [], ◌∷◌}
use Rattle.std.specs.Prelude.{Option, None, Some}
use Rattle.model.specs.declared.Geometry.{Geometry}
use Rattle.model.specs.Bytes.{zeros}
use Rattle.model.specs.Geometry.{geometry}
use Rattle.model.specs.Answers.{Areas, Answer, done}
use Rattle.model.specs.Calls.{Call, format, put, del, flush, count, drop, reply, run}
use Rattle.model.proofs.Computing.{computing}
use Rattle.history.specs.History.{Known, History, blank, older, unless_aged, note, remember, events}

-- two batches of one page of three entries, for one partition and for two: key 2 ^ 63 is in the second
abbrev with : ℕ → Geometry
with s = geometry s 64 1 2 64 3 1

abbrev start : Areas
start = record { memory = zeros 256; flash = zeros 256 }

abbrev history : ℕ → List Call → History
history s cs = remember (blank (with s)) (events start (format (with s) ∷ cs))

abbrev known : ℕ → ℕ → Option Known
known v age = Some (record { value = v; age = age })

-- key 1, then two batches, and a third
abbrev two_flushes : List Call
two_flushes = put 1 10 ∷ put 60 1 ∷ flush 0 ∷ put 61 2 ∷ flush 0 ∷ []

abbrev three_flushes : List Call
three_flushes = put 1 10 ∷ put 60 1 ∷ flush 0 ∷ put 61 2 ∷ flush 0 ∷ put 62 3 ∷ flush 0 ∷ []

-- the fourth does not fit the page, and flushes
abbrev four_puts : List Call
four_puts = put 1 10 ∷ put 2 20 ∷ put 3 30 ∷ put 4 40 ∷ []

-- the older of two batches dropped, and both
abbrev one_drop : List Call
one_drop = put 1 10 ∷ put 60 1 ∷ flush 0 ∷ put 61 2 ∷ flush 0 ∷ put 62 3 ∷ drop 0 ∷ []

abbrev two_drops : List Call
two_drops = put 1 10 ∷ put 60 1 ∷ flush 0 ∷ put 61 2 ∷ flush 0 ∷ put 62 3 ∷ drop 0 ∷ drop 0 ∷ drop 0 ∷ []

-- A key ages with each flush of its partition, also with that of a put, and is forgotten after K of them; a del forgets it at once.
-- The live number stops at K. Another partition's flush changes nothing of a key.
-- A drop forgets the keys whose age is the live number and lowers it; a refused one changes nothing, and nor does another partition's.
pub samples :
    ((history 0 (put 1 10 ∷ [])).keys 1 ≡ known 10 0)
    × ((history 0 two_flushes).keys 1 ≡ known 10 2)
    × ((history 0 three_flushes).keys 1 ≡ None)
    × ((history 0 three_flushes).live 0 ≡ 2)
    × ((history 0 (put 1 10 ∷ del 1 ∷ [])).keys 1 ≡ None)
    × ((history 0 four_puts).keys 1 ≡ known 10 1)
    × ((history 0 four_puts).keys 4 ≡ known 40 0)
    × ((history 0 four_puts).put_pages ≡ 1)
    × ((history 1 (put (2 ^ 63) 5 ∷ put 1 10 ∷ flush 0 ∷ [])).keys (2 ^ 63) ≡ known 5 0)
    × ((history 0 one_drop).keys 1 ≡ None)
    × ((history 0 one_drop).keys 61 ≡ known 2 1)
    × ((history 0 one_drop).live 0 ≡ 1)
    × ((history 0 two_drops).keys 61 ≡ None)
    × ((history 0 two_drops).keys 62 ≡ known 3 0)
    × ((history 0 two_drops).live 0 ≡ 0)
    × ((history 1 (put (2 ^ 63) 5 ∷ flush 1 ∷ put 1 10 ∷ flush 0 ∷ drop 0 ∷ [])).keys (2 ^ 63) ≡ known 5 1)
unfolding computing older unless_aged note remember events
samples = (refl, refl, refl, refl, refl, refl, refl, refl, refl, refl, refl, refl, refl, refl, refl, refl)

abbrev counted : List Call → Answer
counted cs = reply (run start (format (with 0) ∷ cs)) (count 0)

-- A put adds an entry unless its key is in the buffer, also the put that flushes; a del takes out the one in the buffer; the batch that a third flush pushes out takes its two along, and so does the one that a drop takes off.
pub counts :
    (counted two_flushes ≡ done 3)
    × (counted three_flushes ≡ done 2)
    × (counted four_puts ≡ done 4)
    × (counted (put 1 10 ∷ put 1 11 ∷ put 2 20 ∷ del 1 ∷ []) ≡ done 1)
    × (counted one_drop ≡ done 2)
    × (counted two_drops ≡ done 1)
unfolding computing
counts = (refl, refl, refl, refl, refl, refl)
