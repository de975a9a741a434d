-- Demand 3 about the calls that a linked program makes, `mx_format` to `mx_drop`: what follows for any list of them from what each promises.
use Rattle.std.specs.Prelude.{ℕ, Bool, false, cond, List, [], ◌∷◌, ◌≡◌, eqb}
use Rattle.model.specs.declared.Geometry.{Geometry}
use Rattle.model.specs.Answers.{Answer}
use Rattle.model.specs.Calls.{Call, format, replies}
use Rattle.history.specs.History.{History, Event, turned_down, accepted, remember}
use Rattle.history.specs.Claim.{AllFit}
use Rattle.answers.specs.Performs.{areas}
use Rattle.chain.specs.Chain.{Made, heard_of, Kept}
use Rattle.exported.specs.declared.MxAnswer.{MxAnswer}
use Rattle.exported.specs.Exported.{exported_by}
use Rattle.mortxizal.specs.Exports.{Exports}

-- read off the struct: status 3 is a refusal
abbrev pub is_refusal : MxAnswer → Bool
is_refusal r = eqb r.status 3

-- what the history hears of a call, read off the struct: a put's pages stand in `number`
abbrev pub heard_from : Call → MxAnswer → Event
heard_from c r = cond (is_refusal r) turned_down (accepted c r.number)

-- the answers of a list of calls, each as its function tells it
unfoldable pub exported_all : List Call → List Answer → List MxAnswer
exported_all [] xs = []
exported_all (c ∷ cs) [] = []
exported_all (c ∷ cs) (x ∷ xs) = exported_by c x ∷ exported_all cs xs

-- The functions were called one after another on the same two areas, the first an `mx_format` that was accepted; between them nobody else wrote there.
-- An `mx_text` is among them by the first half of its promise: it leaves both areas as they were, and its text area is its own.
unfoldable pub LinkedCallsKeepDemand3 : Type 0
LinkedCallsKeepDemand3 = (m f m' f' : List ℕ) (h : History) (g : Geometry) (cs : List Call) (r : MxAnswer) (rs : List MxAnswer)
    → Made Exports (format g ∷ cs) m f (r ∷ rs) m' f' → is_refusal r ≡ false → AllFit cs
    → (r ∷ rs ≡ exported_all (format g ∷ cs) (replies (areas m f) (format g ∷ cs))) × Kept (format g ∷ cs) m f m' f' (remember h (heard_of heard_from (format g ∷ cs) (r ∷ rs)))
