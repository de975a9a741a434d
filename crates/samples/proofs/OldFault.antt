-- The fault of the old engine, computed: a key is deleted, its partition is flushed again, and the batch that holds it is still live and its filter passes.
-- The list entry must stay as long as that batch. (The areas are as small as the session's geometry allows.)
use mathlib.Core.Path.{◌≡◌, refl}
use mathlib.Core.List.{List, [], ◌∷◌}
use Rattle.std.specs.Prelude.{Some}
use Rattle.model.specs.Bytes.{zeros}
use Rattle.model.specs.Geometry.{G}
use Rattle.model.specs.Page.{searched}
use Rattle.model.specs.Partition.{listed_of, passing}
use Rattle.model.specs.Answers.{Areas, tally, buffer, batch, done, found, absent, refused}
use Rattle.model.specs.Batch.{batch_page}
use Rattle.model.specs.Calls.{Call, format, put, get, del, flush, drop, partition_in, run, replies}
use Rattle.model.proofs.Computing.{computing}

abbrev start : Areas
start = record { memory = zeros 144; flash = zeros 128 }

-- key 1 goes to batch 1 and is deleted; then batch 2 is written
abbrev deleted_then_flushed : List Call
deleted_then_flushed = format G ∷ put 1 10 ∷ flush 0 ∷ get 1 ∷ del 1 ∷ put 20 20 ∷ flush 0 ∷ []

abbrev then : Areas
then = run start deleted_then_flushed

-- Batch 1 still passes key 1, and its page still holds it. A get must not read it, and the list has no place for another key.
-- With batch 3 batch 1 goes, and the place is free again.
pub old-fault :
    (replies start deleted_then_flushed ≡ done 0 ∷ done 0 ∷ done 1 ∷ found 10 (tally 1 1) (batch 1) ∷ done 0 ∷ done 0 ∷ done 1 ∷ [])
    × (passing G 1 (partition_in then 0) ≡ 1 ∷ [])
    × (searched 1 (batch_page G 0 then.flash 1 0) ≡ Some 1)
    × (replies then (get 1 ∷ del 20 ∷ put 40 30 ∷ flush 0 ∷ get 1 ∷ del 20 ∷ get 20 ∷ [])
    ≡ absent (tally 0 0) ∷ refused 14 0 ∷ done 0 ∷ done 1 ∷ absent (tally 0 0) ∷ done 0 ∷ absent (tally 0 0) ∷ [])
unfolding computing
old-fault = (refl, refl, refl, refl)

-- The same with drops. Key 1 is deleted in batch 1, and batch 1 is dropped: the list entry goes with it.
abbrev deleted_then_dropped : List Call
deleted_then_dropped = format G ∷ put 1 10 ∷ flush 0 ∷ put 20 20 ∷ flush 0 ∷ del 1 ∷ drop 0 ∷ []

abbrev less : Areas
less = run start deleted_then_dropped

-- Put again, the key goes to batch 3, which pushes nothing out, and is deleted there; then batch 4 pushes batch 2 out.
abbrev put_again : List Call
put_again = get 1 ∷ put 1 11 ∷ get 1 ∷ flush 0 ∷ get 1 ∷ get 20 ∷ del 1 ∷ put 40 30 ∷ flush 0 ∷ []

abbrev edge : Areas
edge = run less put_again

-- Slot 0 still holds the dropped batch, and no batch passes key 1. At the edge batch 3 passes it and holds it, and the list has no place for another key.
-- With batch 5 batch 3 goes, and with a drop it does too: the place is free again.
pub drop-fault :
    (replies start deleted_then_dropped ≡ done 0 ∷ done 0 ∷ done 1 ∷ done 0 ∷ done 1 ∷ done 0 ∷ done 0 ∷ [])
    × (listed_of (partition_in less 0) ≡ 0)
    × (passing G 1 (partition_in less 0) ≡ [])
    × (searched 1 (batch_page G 0 less.flash 1 0) ≡ Some 1)
    × (replies less put_again
    ≡ absent (tally 0 0) ∷ done 0 ∷ found 11 (tally 0 1) buffer ∷ done 1 ∷ found 11 (tally 1 1) (batch 3) ∷ found 20 (tally 1 1) (batch 2) ∷ done 0 ∷ done 0 ∷ done 1 ∷ [])
    × (passing G 1 (partition_in edge 0) ≡ 3 ∷ [])
    × (searched 1 (batch_page G 0 edge.flash 3 0) ≡ Some 1)
    × (replies edge (del 40 ∷ get 1 ∷ put 60 50 ∷ flush 0 ∷ get 1 ∷ del 40 ∷ get 40 ∷ [])
    ≡ refused 14 0 ∷ absent (tally 0 0) ∷ done 0 ∷ done 1 ∷ absent (tally 0 0) ∷ done 0 ∷ absent (tally 0 0) ∷ [])
    × (replies edge (drop 0 ∷ get 1 ∷ del 40 ∷ get 40 ∷ drop 0 ∷ drop 0 ∷ [])
    ≡ done 0 ∷ absent (tally 0 0) ∷ done 0 ∷ absent (tally 0 0) ∷ done 0 ∷ refused 23 0 ∷ [])
unfolding computing
drop-fault = (refl, refl, refl, refl, refl, refl, refl, refl, refl)
