-- Laws of `first_from`, over any test: what a loop over the numbers shows of it, and what its answer tells.
use mathlib.Core.Path.{◌≡◌, refl, ◌∙◌}
use mathlib.Core.Logic.{⊎_elim}
use mathlib.Core.Bool.{Bool, true, false}
use Rattle.std.specs.Prelude.{Option, None, Some}
use Prim.Native.Nat.{ℕ, zero, suc, ◌+◌, ◌-◌, ◌≤◌, ◌<◌}
use native.Mathlib.Nat.{add-zero}
use native.Mathlib.Omega.{arith}
use Rattle.model.specs.Search.{first_from, any_from}
use Rattle.model.proofs.Parts.{lt-or-ge}

-- j is the first of the n numbers from i on that passes
pub record First (test : ℕ → Bool) (n i j : ℕ) : Type 0 where
  pub low : i ≤ j
  pub high : j < i + n
  pub passed : test j ≡ true
  pub earlier : (k : ℕ) → i ≤ k → k < j → test k ≡ false

-- what holds at i and of each later number holds from i on
also : (P : ℕ → Type 0) (i m : ℕ) → P i → ((k : ℕ) → i + 1 ≤ k → k < m → P k) → (k : ℕ) → i ≤ k → k < m → P k
also P i m p f k l h = ⊎_elim (λ (b : i < k). f k (omega arith) h) (λ (g : k ≤ i). let e : k ≡ i = omega arith in rw e p) (lt-or-ge i k)

module _ (test : ℕ → Bool) where
  -- a loop that runs i up to `end` has the answer `first_from (end - i) i test` still to give
  pub first-here : (end i : ℕ) → i < end → test i ≡ true → first_from (end - i) i test ≡ Some i
  unfolding first_from
  first-here end i l h = let e : end - i ≡ suc (end - (i + 1)) = omega arith in rw (e, h)

  pub first_next : (end i : ℕ) → i < end → test i ≡ false → first_from (end - i) i test ≡ first_from (end - (i + 1)) (i + 1) test
  unfolding first_from
  first_next end i l h = let e : end - i ≡ suc (end - (i + 1)) = omega arith in rw (e, h)

  pub first-end : (end i : ℕ) → end ≤ i → first_from (end - i) i test ≡ None
  unfolding first_from
  first-end end i l = let e : end - i ≡ 0 = omega arith in rw e

  -- the search goes on behind r numbers that do not pass
  pub first-behind : (n i r : ℕ) → ((j : ℕ) → j < r → test (i + j) ≡ false) → r ≤ n → first_from n i test ≡ first_from (n - r) (i + r) test
  unfolding first_from
  first-behind n i zero h l = let e : n - 0 ≡ n = omega arith in rw (add-zero, e)
  first-behind zero i (suc r) h l = absurd (omega arith)
  first-behind (suc n) i (suc r) h l =
      let here : test i ≡ false = rw add-zero at (h 0 (omega arith)) in
      let next : (j : ℕ) → j < r → test (i + 1 + j) ≡ false = λ j b. (let e : i + 1 + j ≡ i + suc j = omega arith in rw e (h (suc j) (omega arith))) in
      let e : i + suc r ≡ i + 1 + r = omega arith in
      let d : suc n - suc r ≡ n - r = omega arith in
      rw (here, e, d) (first-behind n (i + 1) r next (omega arith))

  -- some number of a few, tried in their order
  pub any_here : (n i : ℕ) → test i ≡ true → true ≡ any_from (suc n) i test
  unfolding first_from
  any_here n i h = rw h

  pub any_next : (n i : ℕ) → test i ≡ false → any_from n (i + 1) test ≡ any_from (suc n) i test
  unfolding first_from
  any_next n i h = rw h

  pub any-alone : (i : ℕ) → test i ≡ any_from 1 i test
  unfolding first_from
  any-alone i = go (test i) refl
    where
      go : (b : Bool) → test i ≡ b → test i ≡ any_from 1 i test
      go true h = h ∙ any_here 0 i h
      go false h = h ∙ any_next 0 i h

  -- what an answer tells
  pub first-at : (n i j : ℕ) → first_from n i test ≡ Some j → First test n i j
  unfolding first_from
  first-at zero i j e = let z : ◌≡◌ {A = ℕ} 0 1 = cc in absurd (omega arith)
  first-at (suc n) i j e = go (test i) refl (first-at n (i + 1) j)
    where
      go : (b : Bool) → test i ≡ b → (first_from n (i + 1) test ≡ Some j → First test n (i + 1) j) → First test (suc n) i j
      go true q next = let s : Some i ≡ Some j = rw q at e in let d : i ≡ j = cc in record { low = omega arith; high = omega arith; passed = rw (← d) q; earlier = λ k l h. absurd (omega arith) }
      go false q next = let r = next (rw q at e) in record { low = omega arith; high = omega arith; passed = r.passed; earlier = also (λ k. test k ≡ false) i j q r.earlier }

  pub first-none : (n i : ℕ) → first_from n i test ≡ None → (k : ℕ) → i ≤ k → k < i + n → test k ≡ false
  unfolding first_from
  first-none zero i e = λ k l h. absurd (omega arith)
  first-none (suc n) i e = go (test i) refl (first-none n (i + 1))
    where
      go : (b : Bool) → test i ≡ b → (first_from n (i + 1) test ≡ None → (k : ℕ) → i + 1 ≤ k → k < i + 1 + n → test k ≡ false) → (k : ℕ) → i ≤ k → k < i + suc n → test k ≡ false
      go true q next = let s : ◌≡◌ {A = Option ℕ} (Some i) None = rw q at e in let z : ◌≡◌ {A = ℕ} 0 1 = cc in absurd (omega arith)
      go false q next = also (λ k. test k ≡ false) i (i + suc n) q (λ k l h. next (rw q at e) k l (omega arith))

-- tests that agree on the range have one answer
pub first-ext : (f g : ℕ → Bool) (n i : ℕ) → ((k : ℕ) → i ≤ k → k < i + n → f k ≡ g k) → first_from n i f ≡ first_from n i g
unfolding first_from
first-ext f g zero i h = refl
first-ext f g (suc n) i h = rw (h i (omega arith) (omega arith), first-ext f g n (i + 1) (λ k l b. h k (omega arith) (omega arith)))
