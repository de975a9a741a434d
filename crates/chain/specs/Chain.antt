-- Demand 3 about calls that were made, and what a count and a text then answer: what follows for any list of them from what each promises.
use Rattle.std.specs.Prelude.{ℕ, false, List, [], ◌∷◌, ◌≡◌}
use Rattle.model.specs.declared.Geometry.{Geometry}
use Rattle.model.specs.Answers.{Answer}
use Rattle.model.specs.Calls.{Call, format, run, replies}
use Rattle.history.specs.History.{History, Event, heard, remember}
use Rattle.history.specs.Claim.{AllFit, is_refused, Holds, Counts}
use Rattle.history.specs.Moving.{AllMove}
use Rattle.answers.specs.Performs.{areas, Performs}

-- These calls were made, one after another, on memory m and flash f: each kept its promise on both areas as the last one left them.
-- What a call promises, and how it tells its answer, is the interface's: `Performs` here, `Exports` in C (crates/linked).
pub data Made {R : Type 0} (Promised : Call → List ℕ → List ℕ → R → List ℕ → List ℕ → Type 0) : List Call → List ℕ → List ℕ → List R → List ℕ → List ℕ → Type 0 where
  none : {m f : List ℕ} → Made Promised [] m f [] m f
  next : {c : Call} {cs : List Call} {r : R} {rs : List R} {m f m₁ f₁ m₂ f₂ : List ℕ} → Promised c m f r m₁ f₁ → Made Promised cs m₁ f₁ rs m₂ f₂ → Made Promised (c ∷ cs) m f (r ∷ rs) m₂ f₂

-- what the history hears of calls and their answers
unfoldable pub heard_of : {R : Type 0} → (Call → R → Event) → List Call → List R → List Event
heard_of hear [] rs = []
heard_of hear (c ∷ cs) [] = []
heard_of hear (c ∷ cs) (r ∷ rs) = hear c r ∷ heard_of hear cs rs

-- The calls left m' and f' as the definitions say, and what demand 3 asks is true of both areas and of the history h.
-- A count of any partition is accepted then, and answers the sum of its page counts; and the text of any partition moves it.
pub record Kept (cs : List Call) (m f m' f' : List ℕ) (h : History) : Type 0 where
  pub leaves : areas m' f' ≡ run (areas m f) cs
  pub holds : Holds (areas m' f') h
  pub counts : Counts (areas m' f') h
  pub moves : AllMove (areas m' f') h

-- The list begins with a format that was accepted, on areas of any content, whatever the history held.
-- The calls then answered as the definitions say, and the history that heard these answers is kept.
unfoldable pub CallsKeepDemand3 : Type 0
CallsKeepDemand3 = (m f m' f' : List ℕ) (h : History) (g : Geometry) (cs : List Call) (r : Answer) (rs : List Answer)
    → Made Performs (format g ∷ cs) m f (r ∷ rs) m' f' → is_refused r ≡ false → AllFit cs
    → (r ∷ rs ≡ replies (areas m f) (format g ∷ cs)) × Kept (format g ∷ cs) m f m' f' (remember h (heard_of heard (format g ∷ cs) (r ∷ rs)))
