-- How a call comes to perform what the definitions say: refused, accepted with a change, or only looking.
use Prim.Native.Nat.{ℕ}
use mathlib.Core.List.{List}
use Rattle.std.specs.Prelude.{None, Some}
use mathlib.Core.Path.{◌≡◌, sym, ◌∙◌, ap₂}
use Rattle.model.specs.Answers.{Refusal, Answer, done, refused}
use Rattle.model.specs.Calls.{Call, checks, result, effect}
use Rattle.model.proofs.Calls.{reply-refused, after-refused, reply-accepted, after-done, after_same}
use Rattle.answers.specs.Performs.{areas, Performs}

module _ (c : Call) (m f : List ℕ) where
  pub refusing : (r : Refusal) → checks (areas m f) c ≡ Some r → Performs c m f (refused r.number r.reads) m f
  refusing r h = record { answers = sym (reply-refused (areas m f) c r h); leaves = sym (after-refused (areas m f) c r h) }

  pub doing : (n : ℕ) (m' f' : List ℕ) {m'' f'' : List ℕ} → checks (areas m f) c ≡ None → result (areas m f) c ≡ done n → effect (areas m f) c ≡ areas m'' f'' → m' ≡ m'' → f' ≡ f'' → Performs c m f (done n) m' f'
  doing n m' f' h e k em ef = record { answers = sym (reply-accepted (areas m f) c h ∙ e); leaves = ap₂ areas em ef ∙ sym (after-done (areas m f) c h n e ∙ k) }

  pub looking : (r : Answer) {r' : Answer} → checks (areas m f) c ≡ None → result (areas m f) c ≡ r' → r ≡ r' → effect (areas m f) c ≡ areas m f → Performs c m f r m f
  looking r h e er k = record { answers = er ∙ sym (reply-accepted (areas m f) c h ∙ e); leaves = sym (after_same (areas m f) c k) }
