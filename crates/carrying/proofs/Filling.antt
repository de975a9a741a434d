-- A buffer page that takes new keys one after the other and is flushed when it is full holds the latest of them, and key 0 has the age of the flushes done.
use Prim.Native.Nat.{ℕ, suc, ◌+◌, ◌*◌, ◌%◌, ◌^◌, ◌≤◌, ◌<◌}
use mathlib.Core.Bool.{cond}
use mathlib.Core.Path.{◌≡◌, refl, ◌∙◌}
use mathlib.Core.List.{List, []}
use Rattle.std.specs.Prelude.{Option, None, Some}
use native.Mathlib.Omega.{arith}
use native.Mathlib.Nat.{mul-le-mul_left}
use lib.Dec.{eqb, ltb}
use lib.ListN.{length}
use Rattle.model.proofs.Tests.{numbers, either}
use Rattle.model.proofs.Tables.{Entry, find, store, length-store, find-store-other}
use Rattle.history.specs.History.{Known, older}
use Rattle.history.proofs.Told.{Told, listed, absent, present}

-- not known, or of at least this age
abbrev pub Aged : ℕ → Option Known → Type 0
Aged m None = Unit {0}
Aged m (Some w) = m ≤ w.age

aged-more : (K m : ℕ) (o : Option Known) → Aged m o → Aged (suc m) (older K o)
unfolding older
aged-more K m None old = tt
aged-more K m (Some w) old = either (ltb K (w.age + 1)) (λ e. simp e tt) (λ e. simp e (omega arith))

-- no place is that old
pub too-old : {live F : ℕ} {m : Option ℕ} {f : ℕ → Option ℕ} {w : Option Known} → Told live F m f w → (age : ℕ) → live < age → Aged age w → w ≡ None
too-old (listed silent) age gone old = refl
too-old (absent silent) age gone old = refl
too-old (present here fits silent) age gone old = absurd (omega arith)

-- After n puts and F flushes the page holds the entries l, and o is known of key 0, which comes again with put 2^18.
-- Of the puts to come, the page lacks the key of each that is less than 2^18 puts behind the first that it holds.
pub record Filled (E n F : ℕ) (l : List Entry) (o : Option Known) : Type 0 where
  pub puts : F * E + length l ≡ n
  pub later : (i : ℕ) → n ≤ i → i + length l < n + 2 ^ 18 → find (i % 2 ^ 18) l ≡ None
  pub first : n ≤ 2 ^ 18 → Aged F o

nothing-found : (k : ℕ) → find k [] ≡ None
unfolding find
nothing-found k = refl

pub filled_none : (E : ℕ) → Filled E 0 0 [] None
filled_none E = record { puts = omega arith; later = λ i l h. nothing-found (i % 2 ^ 18); first = λ h. tt }

module _ {E n F : ℕ} {l : List Entry} {o : Option Known} (at : Filled E n F l o) where
  pub filled-flush : (K : ℕ) → length l ≡ E → Filled E n (suc F) [] (older K o)
  filled-flush K full = record { puts = omega (arith, at.puts); later = λ i l h. nothing-found (i % 2 ^ 18); first = λ h. aged-more K F o (at.first h) }

  module _ (few : length l < 2 ^ 18) where
    abbrev key : ℕ
    key = n % 2 ^ 18

    pub key-new : find key l ≡ None
    key-new = at.later n (omega arith) (omega arith)

    pub filled_put : 0 < E → Filled E (suc n) F (store key 1 l) (cond (eqb 0 key) (Some (record { value = 1; age = 0 })) o)
    filled_put some-room =
        let long : length (store key 1 l) ≡ suc (length l) = rw (length-store key 1 l, key-new) in
        record {
          puts = rw long (omega (arith, at.puts));
          later = λ i after near.
              let near : i + suc (length l) < suc n + 2 ^ 18 = rw long at near in
              find-store-other (i % 2 ^ 18) key (λ same. omega arith) 1 l ∙ at.later i (omega arith) (omega arith);
          first = λ h. either (eqb 0 key)
              (λ e. simp e (omega (numbers, at.puts, mul-le-mul_left F some-room)))
              (λ e. simp e (at.first (omega arith)));
        }
