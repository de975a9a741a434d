-- What a card carries (02, job 7), about calls that were made one after another on the same two areas.
use Rattle.std.specs.Prelude.{ℕ, false, List, ◌∷◌, ◌≡◌}
use Rattle.model.specs.declared.Geometry.{Geometry}
use Rattle.model.specs.Answers.{Answer}
use Rattle.model.specs.Calls.{Call, format}
use Rattle.history.specs.History.{heard}
use Rattle.history.specs.Claim.{is_refused}
use Rattle.carrying.specs.Carrying.{Carried}
use Rattle.answers.specs.Performs.{areas, Performs}
use Rattle.chain.specs.Chain.{Made, heard_of}

-- The first is a format that was accepted, on areas of any content.
unfoldable pub CallsCarry : Type 0
CallsCarry = (m f m' f' : List ℕ) (g : Geometry) (cs : List Call) (r : Answer) (rs : List Answer)
    → Made Performs (format g ∷ cs) m f (r ∷ rs) m' f' → is_refused r ≡ false
    → Carried g cs (areas m' f') (heard_of heard (format g ∷ cs) (r ∷ rs))
