-- What a few lists of puts come to, beside a card's figures, computed.
use Prim.Native.Nat.{ℕ}
use mathlib.Core.Path.{◌≡◌, refl}
use mathlib.Core.List.{List, [], ◌∷◌}
use Rattle.std.specs.Prelude.{Option, None, Some}
use Rattle.model.specs.Bytes.{zeros}
use Rattle.model.specs.Geometry.{G}
use Rattle.model.specs.Card.{most_flushes, first_lost}
use Rattle.model.specs.Answers.{Areas}
use Rattle.model.specs.Calls.{Call, format, put, get, del, reply, run}
use Rattle.model.proofs.Computing.{computing}
use Rattle.history.specs.History.{events}
use Rattle.history.specs.Claim.{said}
use Rattle.carrying.specs.Carrying.{puts_in, flushes_done, last_put, put_since, one_page_from, one_page}

abbrev start : Areas
start = record { memory = zeros 144; flash = zeros 128 }

abbrev flushes : List Call → ℕ
flushes cs = flushes_done (run start (format G ∷ cs))

abbrev gets : List Call → ℕ → Option (Option ℕ)
gets cs k = said (reply (run start (format G ∷ cs)) (get k))

abbrev lasts : List Call → ℕ → Option ℕ
lasts cs k = put_since (events start (format G ∷ cs)) k

-- a del that leaves room for another put, and a refused put
abbrev spread : List Call
spread = put 1 10 ∷ put 2 20 ∷ del 1 ∷ put 3 30 ∷ put 4 40 ∷ get 4 ∷ put 5 0 ∷ []

-- Nine puts of one page flush twice and keep the first key, the tenth flushes a third time and loses it. A del gives room back, and a refused put counts.
pub cards :
    (flushes (one_page 9) ≡ 2)
    × (most_flushes G 9 ≡ 2)
    × (gets (one_page 9) 0 ≡ Some (Some 1))
    × (first_lost G ≡ 10)
    × (flushes (one_page 10) ≡ 3)
    × (most_flushes G 10 ≡ 3)
    × (gets (one_page 10) 0 ≡ Some None)
    × (lasts (one_page 10) 0 ≡ Some 1)
    × (puts_in spread ≡ 5)
    × (flushes spread ≡ 0)
    × (most_flushes G 5 ≡ 1)
    × (lasts spread 1 ≡ None)
    × (lasts spread 4 ≡ Some 40)
    × (lasts spread 5 ≡ None)
unfolding computing most_flushes first_lost events puts_in flushes_done last_put one_page_from
cards = (refl, refl, refl, refl, refl, refl, refl, refl, refl, refl, refl, refl, refl, refl)
