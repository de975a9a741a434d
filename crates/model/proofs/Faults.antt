-- "How the old engine could be copied wrongly": of each fault a list of calls that shows it, with the answers that the definitions give, computed.
use Prim.Native.Nat.{ℕ}
use mathlib.Core.Path.{◌≡◌, refl}
use mathlib.Core.List.{List, [], ◌∷◌, ◌++◌}
use Rattle.model.specs.Bytes.{zeros}
use Rattle.model.specs.Geometry.{G}
use Rattle.model.specs.Answers.{Answer, buffer, batch, tally, done, found, absent, refused}
use Rattle.model.specs.Calls.{Call, format, put, get, del, flush, count, drop, run, replies}
use Rattle.model.proofs.Computing.{computing}

-- what these calls answer after a format
abbrev answers : List Call → List Answer
answers cs = replies (run (record { memory = zeros 144; flash = zeros 128 }) (format G ∷ [])) cs

-- key 1 with each of these values in a batch of its own, the last the youngest
abbrev batch_of : ℕ → List Call
batch_of v = put 1 v ∷ flush 0 ∷ []

abbrev batch_of-done : List Answer
batch_of-done = done 0 ∷ done 1 ∷ []

-- a batch of another key, whose bits are others
abbrev another : List Call
another = put 20 20 ∷ flush 0 ∷ []

-- A list entry must stay while its batch does.
dropped-early : answers (batch_of 10 ++ (del 1 ∷ []) ++ another ++ (get 1 ∷ [])) ≡ batch_of-done ++ (done 0 ∷ []) ++ batch_of-done ++ (absent (tally 0 0) ∷ [])
unfolding computing
dropped-early = refl

-- A key must be listed also when it is in the buffer: an older batch holds it too.
in-buffer-too : answers (batch_of 10 ++ (put 1 11 ∷ del 1 ∷ get 1 ∷ [])) ≡ batch_of-done ++ (done 0 ∷ done 0 ∷ absent (tally 0 0) ∷ [])
unfolding computing
in-buffer-too = refl

-- Batches go by number: the youngest is in slot 1 first, and in slot 0 after the next flush.
by_number : answers (batch_of 10 ++ batch_of 11 ++ (get 1 ∷ []) ++ batch_of 12 ++ (get 1 ∷ []))
    ≡ batch_of-done ++ batch_of-done ++ (found 11 (tally 1 1) (batch 2) ∷ []) ++ batch_of-done ++ (found 12 (tally 1 1) (batch 3) ∷ [])
unfolding computing
by_number = refl

-- A slot's filter is made new: no bit of its last batch is left to be read for.
old-bits : answers (batch_of 10 ++ another ++ another ++ (get 1 ∷ [])) ≡ batch_of-done ++ batch_of-done ++ batch_of-done ++ (absent (tally 0 0) ∷ [])
unfolding computing
old-bits = refl

-- The stamp is the youngest batch that passes: an older one would let the entry go too early.
stamp : answers (batch_of 10 ++ batch_of 11 ++ (del 1 ∷ []) ++ another ++ (get 1 ∷ [])) ≡ batch_of-done ++ batch_of-done ++ (done 0 ∷ []) ++ batch_of-done ++ (absent (tally 0 0) ∷ [])
unfolding computing
stamp = refl

-- A full list refuses a del, which then takes nothing out of the buffer.
full-list : answers (put 1 10 ∷ put 2 20 ∷ flush 0 ∷ del 1 ∷ put 2 21 ∷ del 2 ∷ get 2 ∷ []) ≡ done 0 ∷ done 0 ∷ done 1 ∷ done 0 ∷ done 0 ∷ refused 14 0 ∷ found 21 (tally 0 1) buffer ∷ []
unfolding computing
full-list = refl

-- A batch is asked by the filter of its own slot, wherever that slot stands.
own-filter : answers (batch_of 10 ++ another ++ batch_of 12 ++ (get 1 ∷ [])) ≡ batch_of-done ++ batch_of-done ++ batch_of-done ++ (found 12 (tally 1 1) (batch 3) ∷ [])
unfolding computing
own-filter = refl

-- A drop takes the oldest batch off, with its two entries, and with the next one goes the list entry that is stamped with it: the place is free again.
dropping : answers (put 1 10 ∷ put 2 20 ∷ flush 0 ∷ [] ++ another ++ (drop 0 ∷ get 1 ∷ count 0 ∷ del 20 ∷ drop 0 ∷ count 0 ∷ []) ++ batch_of 11 ++ (del 1 ∷ drop 0 ∷ drop 0 ∷ []))
    ≡ done 0 ∷ batch_of-done ++ batch_of-done ++ (done 0 ∷ absent (tally 0 0) ∷ done 1 ∷ done 0 ∷ done 0 ∷ done 0 ∷ []) ++ batch_of-done ++ (done 0 ∷ done 0 ∷ refused 23 0 ∷ [])
unfolding computing
dropping = refl
