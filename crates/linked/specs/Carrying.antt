-- What a card carries (02, job 7), about the calls that a linked program makes.
use Rattle.std.specs.Prelude.{ℕ, false, List, ◌∷◌, ◌≡◌}
use Rattle.model.specs.declared.Geometry.{Geometry}
use Rattle.model.specs.Calls.{Call, format}
use Rattle.carrying.specs.Carrying.{Carried}
use Rattle.answers.specs.Performs.{areas}
use Rattle.chain.specs.Chain.{Made, heard_of}
use Rattle.exported.specs.declared.MxAnswer.{MxAnswer}
use Rattle.mortxizal.specs.Exports.{Exports}
use Rattle.linked.specs.Linked.{is_refusal, heard_from}

-- The first is an `mx_format` that was accepted.
unfoldable pub LinkedCallsCarry : Type 0
LinkedCallsCarry = (m f m' f' : List ℕ) (g : Geometry) (cs : List Call) (r : MxAnswer) (rs : List MxAnswer)
    → Made Exports (format g ∷ cs) m f (r ∷ rs) m' f' → is_refusal r ≡ false
    → Carried g cs (areas m' f') (heard_of heard_from (format g ∷ cs) (r ∷ rs))
