-- Every call keeps areas and history in step.
use Prim.Native.Nat.{ℕ}
use mathlib.Core.Path.{◌≡◌, refl}
use Rattle.std.specs.Prelude.{None}
use Rattle.model.specs.Answers.{Areas, done}
use Rattle.model.specs.Calls.{Call, format, put, get, del, flush, view, count, text, drop, checks, result, reply, effect, after}
use Rattle.model.proofs.Calls.{result-del, result-format, result-flush, result-drop, effect-get, effect-view, effect-count, effect-text}
use Rattle.history.specs.History.{History, Event, looking, accepted, heard, note}
use Rattle.history.specs.Claim.{Fits}
use Rattle.history.proofs.FromFormat.{call-leaves, look-leaves}
use Rattle.history.proofs.InStep.{InStep, format-keeps, flush-keeps, drop_keeps}
use Rattle.history.proofs.Keyed.{del-keeps, put-result, put_keeps}

module _ (a : Areas) (h : History) (inv : InStep a h) where
  abbrev Next : Areas → Event → Type 0
  Next a' e = InStep a' (note h e)

  unless-refused : (c : Call) (n : ℕ) → result a c ≡ done n → (checks a c ≡ None → Next (effect a c) (accepted c n)) → Next (after a c) (heard c (reply a c))
  unfolding note
  unless-refused c n ends kept = call-leaves a c Next n ends inv kept

  looks : (c : Call) → ((n : ℕ) → accepted c n ≡ looking) → effect a c ≡ a → Next (after a c) (heard c (reply a c))
  unfolding note
  looks c only same = look-leaves a c Next only same inv inv

  pub step : (c : Call) → Fits c → InStep (after a c) (note h (heard c (reply a c)))
  unfolding note
  step (format g) fits = unless-refused (format g) 0 (result-format a g) (format-keeps a g)
  step (put k v) fits = unless-refused (put k v) _ (put-result a h inv k fits.0 v fits.1) (put_keeps a h inv k fits.0 v fits.1)
  step (get k) fits = looks (get k) (λ n. refl) (effect-get a k)
  step (del k) fits = unless-refused (del k) 0 (result-del a k) (del-keeps a h inv k fits)
  step (flush t) fits = unless-refused (flush t) _ (result-flush a _ refl t) (flush-keeps a h inv t)
  step (view t q n) fits = looks (view t q n) (λ m. refl) (effect-view a t q n)
  step (count t) fits = looks (count t) (λ n. refl) (effect-count a t)
  step (text t room) fits = looks (text t room) (λ n. refl) (effect-text a t room)
  step (drop t) fits = unless-refused (drop t) 0 (result-drop a t) (drop_keeps a h inv t)
