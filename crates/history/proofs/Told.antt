-- What one key comes to: its stamp in the list, what each place holds of it by age, and what the history knows of it.
-- Age 0 is the buffer, age a the batch F + 1 - a.
use Prim.Native.Nat.{ℕ, zero, suc, ◌+◌, ◌-◌, ◌≤◌, ◌<◌}
use mathlib.Core.Bool.{true, false≢true}
use mathlib.Core.Path.{◌≡◌, refl, sym, ◌∙◌, subst₂, fun_ext}
use Rattle.std.specs.Prelude.{Option, None, Some}
use native.Mathlib.Numerals.{add-one}
use native.Mathlib.Omega.{arith}
use native.Mathlib.Decide.{dec_le}
use lib.Dec.{eqb}
use borrow.Author.Tests.{lt-ltb, le-ltb}
use Rattle.model.specs.Search.{is_some}
use Rattle.model.proofs.Tests.{numbers, either}
use Rattle.model.proofs.Tables.{unless}
use Rattle.history.specs.History.{Known, older, unless_aged}
use Rattle.history.proofs.Table.{expires, live_after}

-- A listed key is in no place younger than the batch of its stamp. A key that the history knows is in the place of its age, and in no
-- younger one. Any other key is in no live place. The places are those up to the age of the live number.
pub data Told (live F : ℕ) : Option ℕ → (ℕ → Option ℕ) → Option Known → Type 0 where
  listed : {s : ℕ} {f : ℕ → Option ℕ} → ((b : ℕ) → b + s ≤ F → f b ≡ None) → Told live F (Some s) f None
  absent : {f : ℕ → Option ℕ} → ((b : ℕ) → b ≤ live → f b ≡ None) → Told live F None f None
  present : {f : ℕ → Option ℕ} {v a : ℕ} → f a ≡ Some v → a ≤ live → ((b : ℕ) → b < a → f b ≡ None)
      → Told live F None f (Some (record { value = v; age = a }))

pub told_same : {live F : ℕ} {m m' : Option ℕ} {f f' : ℕ → Option ℕ} {w : Option Known}
    → m' ≡ m → ((a : ℕ) → f' a ≡ f a) → Told live F m f w → Told live F m' f' w
told_same {live} {F} {w} p q r = subst₂ (λ m f. Told live F m f w) (sym p) (fun_ext (λ a. sym (q a))) r

-- a listed key is not known
pub told-forget : {live F : ℕ} {m : Option ℕ} {f : ℕ → Option ℕ} {w : Option Known}
    → Told live F m f w → is_some m ≡ true → Told live F m f None
told-forget (listed silent) h = listed silent
told-forget (absent silent) h = absent silent
told-forget (present here fits silent) h = absurd (false≢true h)

-- a key is known up to age K, and not above
pub older-kept : (kept v a : ℕ) → a + 1 ≤ kept → older kept (Some (record { value = v; age = a })) ≡ Some (record { value = v; age = a + 1 })
unfolding older
older-kept kept v a young = rw (le-ltb, young)

older-gone : (kept v a : ℕ) → kept < a + 1 → older kept (Some (record { value = v; age = a })) ≡ None
unfolding older
older-gone kept v a old = rw (lt-ltb, old)

-- a flush: every place is one older, the buffer is empty, and the live number rises by 1, up to K
module _ (f f' : ℕ → Option ℕ) (start : f' 0 ≡ None) (shift : (a : ℕ) → f' (suc a) ≡ f a) where
  later : (b : ℕ) → ((c : ℕ) → b ≡ suc c → f c ≡ None) → f' b ≡ None
  later zero h = start
  later (suc c) h = shift c ∙ h c refl

  pub told-flush : (kept : ℕ) {live F : ℕ} {m : Option ℕ} {w : Option Known} → Told live F m f w
      → Told (live_after kept live) (suc F) (unless (expires kept F) m) f' (older kept w)
  unfolding older
  told-flush kept {live} {F} (listed {s = s} silent) = either (expires kept F s)
      (λ h. simp h (absent (λ b l. later b (λ c q. silent c (omega numbers)))))
      (λ h. simp h (listed {s = s} (λ b l. later b (λ c q. silent c (omega arith)))))
  told-flush kept {live} {F} (absent silent) = absent (λ b l. later b (λ c q. silent c (omega arith)))
  told-flush kept {live} {F} (present {v = v} {a = a} here fits silent) = elim (dec_le (a + 1) kept) [
    | yes young ↦ rw (older-kept kept v a young)
        (present {f = f'} {v = v} {a = a + 1} (rw add-one (shift a ∙ here)) (omega arith) (λ b l. later b (λ c q. silent c (omega arith))))
    | no old ↦ rw (older-gone kept v a (omega arith)) (absent (λ b l. later b (λ c q. silent c (omega arith))))
  ]

-- a drop: every place is as old as it was, and the oldest is live no more
pub told-drop : {live F : ℕ} {m : Option ℕ} {f : ℕ → Option ℕ} {w : Option Known} → 1 ≤ live → Told live F m f w → Told (live - 1) F (unless (expires live F) m) f (unless_aged live w)
unfolding unless_aged
told-drop {live} {F} any (listed {s = s} silent) = either (expires live F s)
    (λ h. simp h (absent (λ b l. silent b (omega numbers))))
    (λ h. simp h (listed {s = s} silent))
told-drop {live} {F} any (absent silent) = absent (λ b l. silent b (omega arith))
told-drop {live} {F} any (present {v = v} {a = a} here fits silent) = either (eqb a live)
    (λ h. simp h (absent (λ b l. silent b (omega numbers))))
    (λ h. simp h (present {v = v} {a = a} here (omega numbers) silent))
