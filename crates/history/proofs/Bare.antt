-- A get's answer without its cost: the value and where it was found, or nothing; and what the history makes of it.
use Prim.Native.Nat.{ℕ, zero, suc, ◌-◌}
use mathlib.Core.Bool.{false}
use mathlib.Core.Path.{◌≡◌, refl}
use Rattle.std.specs.Prelude.{Option, None, Some}
use Rattle.model.specs.Answers.{Answer, done, found, absent, shown, refused, Place, buffer, batch}
use Rattle.history.specs.History.{Known}
use Rattle.history.specs.Claim.{is_refused, said, value_of}

pub data Bare : Type 0 where
  value : ℕ → Place → Bare
  nothing : Bare
  other : Bare

abbrev pub bare : Answer → Bare
bare (found v c p) = value v p
bare (absent c) = nothing
bare (done n) = other
bare (shown s) = other
bare (refused n r) = other

-- what is said follows from it
abbrev pub said_of : Bare → Option (Option ℕ)
said_of (value v p) = Some (Some v)
said_of nothing = Some None
said_of other = None

pub said-bare : (x : Answer) → said x ≡ said_of (bare x)
said-bare (found v c p) = refl
said-bare (absent c) = refl
said-bare (done n) = refl
said-bare (shown s) = refl
said-bare (refused n r) = refl

-- where a key of this age is, after F flushes
abbrev pub place_at : ℕ → ℕ → Place
place_at F zero = buffer
place_at F (suc a) = batch (F - a)

-- what the history makes a get answer
abbrev pub bare_of : ℕ → Option Known → Bare
bare_of F None = nothing
bare_of F (Some w) = value w.value (place_at F w.age)

pub said-known : (F : ℕ) (w : Option Known) → said_of (bare_of F w) ≡ Some (value_of w)
said-known F None = refl
said-known F (Some w) = refl

-- which is no refusal
pub known-accepted : (x : Answer) (F : ℕ) (w : Option Known) → bare x ≡ bare_of F w → is_refused x ≡ false
known-accepted (found v c p) F w e = refl
known-accepted (absent c) F w e = refl
known-accepted (done n) F w e = refl
known-accepted (shown s) F w e = refl
known-accepted (refused n r) F None e = cc
known-accepted (refused n r) F (Some w) e = cc
