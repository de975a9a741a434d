-- What one call leaves, and what the history hears of it: a refused call and a look leave all, and one that is done leaves its effect. What an accepted format brings about, and every call keeps, holds from a format on.
use Prim.Native.Nat.{ℕ}
use mathlib.Core.Bool.{false, true≢false}
use mathlib.Core.Path.{◌≡◌, refl, sym, ◌∙◌, ap}
use mathlib.Core.List.{List, [], ◌∷◌}
use Rattle.std.specs.Prelude.{Option, None, Some}
use Rattle.model.specs.declared.Geometry.{Geometry}
use Rattle.model.specs.Answers.{Areas, Refusal, Answer, done, found, absent, shown, refused}
use Rattle.model.specs.Calls.{Call, format, checks, result, reply, effect, after, run}
use Rattle.model.proofs.Calls.{result-format, reply-refused, after-refused, reply-accepted, after-done, after_same}
use Rattle.history.specs.History.{History, blank, Event, looking, turned_down, accepted, heard, note, events, remember}
use Rattle.history.specs.Claim.{Fits, AllFit, is_refused, FromFormat}

-- an answer is heard as a refusal, or as a call that was accepted
pub heard-as : (c : Call) (P : Event → Type 0) (x : Answer) → (is_refused x ≡ false → (n : ℕ) → P (accepted c n)) → P turned_down → P (heard c x)
heard-as c P (done n) taken turned = taken refl n
heard-as c P (found v r p) taken turned = taken refl 0
heard-as c P (absent r) taken turned = taken refl 0
heard-as c P (shown s) taken turned = taken refl 0
heard-as c P (refused n r) taken turned = turned

-- a call that is not refused has passed its checks
pub not-refused : (a : Areas) (c : Call) → is_refused (reply a c) ≡ false → checks a c ≡ None
not-refused a c e = go (checks a c) refl
  where
    go : (o : Option Refusal) → checks a c ≡ o → o ≡ None
    go None x = refl
    go (Some r) x = absurd (true≢false (sym (ap is_refused (reply-refused a c r x)) ∙ e))

-- P of what a call leaves, and of what is heard of it
module _ (a : Areas) (c : Call) (P : Areas → Event → Type 0) where
  -- a refused call leaves all
  pub refused-leaves : (r : Refusal) → checks a c ≡ Some r → P a turned_down → P (after a c) (heard c (reply a c))
  refused-leaves r e turned = rw (after-refused a c r e, reply-refused a c r e) turned

  -- one that is done leaves its effect
  pub done-leaves : (n : ℕ) → result a c ≡ done n → checks a c ≡ None → P (effect a c) (accepted c n) → P (after a c) (heard c (reply a c))
  done-leaves n ends e kept = rw (after-done a c e n ends, reply-accepted a c e, ends) kept

  pub call-leaves : (n : ℕ) → result a c ≡ done n → P a turned_down → (checks a c ≡ None → P (effect a c) (accepted c n)) → P (after a c) (heard c (reply a c))
  call-leaves n ends turned kept = go (checks a c) refl
    where
      go : (o : Option Refusal) → checks a c ≡ o → P (after a c) (heard c (reply a c))
      go (Some r) e = refused-leaves r e turned
      go None e = done-leaves n ends e (kept e)

  -- get, view, count and text leave all, whatever they answer
  pub look-leaves : ((n : ℕ) → accepted c n ≡ looking) → effect a c ≡ a → P a turned_down → P a looking → P (after a c) (heard c (reply a c))
  look-leaves looks same turned kept = rw (after_same a c same) (heard-as c (P a) (reply a c) (λ e n. rw (looks n) kept) turned)

module _ (P : Areas → History → Type 0) (formatted : (a : Areas) (g : Geometry) → checks a (format g) ≡ None → P (effect a (format g)) (blank g))
    (kept : (a : Areas) (h : History) → P a h → (c : Call) → Fits c → P (after a c) (note h (heard c (reply a c)))) where
  start : (a : Areas) (h : History) (g : Geometry) → is_refused (reply a (format g)) ≡ false → P (after a (format g)) (note h (heard (format g) (reply a (format g))))
  unfolding note
  start a h g e =
      let passed = not-refused a (format g) e in
      done-leaves a (format g) (λ a' x. P a' (note h x)) 0 (result-format a g) passed (formatted a g passed)

  along : (cs : List Call) → AllFit cs → (a : Areas) (h : History) → P a h → P (run a cs) (remember h (events a cs))
  unfolding run remember events
  along [] fits a h p = p
  along (c ∷ cs) fits a h p = along cs fits.1 (after a c) (note h (heard c (reply a c))) (kept a h p c fits.0)

  pub from-format : FromFormat P
  unfolding run remember events
  from-format a h g accepted cs fits = along cs fits (after a (format g)) (note h (heard (format g) (reply a (format g)))) (start a h g accepted)
