-- Which keys the bits of a filter pass: it is had from the bits below M, and a batch that holds a key passes it; and the walk through the batches that pass.
use mathlib.Core.Path.{◌≡◌, refl, sym, ◌∙◌, ap}
use mathlib.Core.Bool.{Bool, true, false, not, ◌&&◌, ◌||◌, or-true}
use mathlib.Core.List.{List, [], ◌∷◌}
use Rattle.std.specs.Prelude.{Option, None, Some}
use Prim.Native.Nat.{ℕ, zero, suc, ◌+◌, ◌-◌, ◌≤◌, ◌<◌}
use native.Mathlib.Nat.{add-zero, zero-add}
use native.Mathlib.Decide.{ℕ_discrete}
use native.Mathlib.Omega.{arith}
use lib.Dec.{eqb}
use borrow.Author.Tests.{eqb-true, eq-eqb}
use Rattle.model.specs.declared.Geometry.{Geometry}
use Rattle.model.specs.Search.{first_from, any_from}
use Rattle.model.specs.Geometry.{allowed}
use Rattle.model.specs.Keys.{mixed, bit_of}
use Rattle.model.specs.Filter.{passes}
use Rattle.model.specs.Partition.{flushes_of, live_of, slot, slot_bits, batch_passes, passing_from, passing}
use Rattle.model.proofs.Sizes.{bit_below}
use Rattle.model.proofs.Tests.{either}
use Rattle.model.proofs.Tables.{Entry, find, any, all, any_below, bits_below, bits_of, has_bit, passes_in}

-- one more number to try
any_last : (test : ℕ → Bool) (n i : ℕ) → any_from (suc n) i test ≡ test (i + n) || any_from n i test
unfolding first_from
any_last test zero i = rw add-zero (either (test i) (λ t. simp t) (λ t. simp t))
any_last test (suc n) i =
    let e : i + 1 + n ≡ i + suc n = omega arith in
    either (test i) (λ t. simp (t, or-true)) (λ t. simp t (rw e at (any_last test n (i + 1))))

not-or : (x y : Bool) → not (x || y) ≡ not x && not y
not-or true y = refl
not-or false y = refl

not-not : (x : Bool) → not (not x) ≡ x
not-not true = refl
not-not false = refl

-- a filter passes a key each of whose bits is set
module _ (g : Geometry) (x : ℕ) (bits : ℕ → Bool) where
  none-missing : (n : ℕ) → not (any_from n 0 (λ i. not (bits (bit_of g x i)))) ≡ all bits (bits_below g x n)
  unfolding first_from all bits_below
  none-missing zero = refl
  none-missing (suc n) =
      ap not (any_last (λ i. not (bits (bit_of g x i))) n 0) ∙ rw (zero-add, not-or, not-not (bits (bit_of g x n)), none-missing n)

  pub passes-all : passes g x bits ≡ all bits (bits_below g x g.hashes)
  unfolding passes
  passes-all = none-missing g.hashes

-- so it is had from the bits below M alone
module _ (g : Geometry) (ok : allowed g ≡ true) (x : ℕ) (bits bits' : ℕ → Bool) (same : (b : ℕ) → b < g.bits → bits b ≡ bits' b) where
  all_same : (n : ℕ) → n ≤ g.hashes → all bits (bits_below g x n) ≡ all bits' (bits_below g x n)
  unfolding all bits_below
  all_same zero l = refl
  all_same (suc n) l = rw (same (bit_of g x n) (bit_below g ok x n l), all_same n (omega arith))

  pub passes_same : passes g x bits ≡ passes g x bits'
  passes_same = passes-all g x bits ∙ all_same g.hashes (omega arith) ∙ sym (passes-all g x bits')

-- and a batch passes a key as any bits do that its slot has
pub batch-passes : (g : Geometry) → allowed g ≡ true → (k : ℕ) (p : List ℕ) (n : ℕ) (bits : ℕ → Bool) → ((b : ℕ) → b < g.bits → slot_bits g p (slot g n) b ≡ bits b)
    → batch_passes g k p n ≡ passes g (mixed k) bits
unfolding batch_passes
batch-passes g ok k p n bits same = passes_same g ok (mixed k) (slot_bits g p (slot g n)) bits same

-- ---- the bits of a batch
all_true : (f : ℕ → Bool) (l : List ℕ) → ((b : ℕ) → any (eqb b) l ≡ true → f b ≡ true) → all f l ≡ true
unfolding all any
all_true f [] h = refl
all_true f (x ∷ l) h = let here : f x ≡ true = h x (simp (eq-eqb x x refl)) in let rest : all f l ≡ true = all_true f l (λ b m. h b (simp (m, or-true))) in simp (here, rest)

any_found : (f : ℕ → Bool) (k v : ℕ) (l : List Entry) → find k l ≡ Some v → f k ≡ true → any (λ e. f e.key) l ≡ true
unfolding any find
any_found f k v [] h t = cc
any_found f k v (e ∷ l) h t =
    either (eqb k e.key) (λ w. let here : f e.key ≡ true = ap f (sym (eqb-true k e.key w)) ∙ t in simp here)
    (λ w. simp (any_found f k v l (simp w at h) t, or-true))

any_below-true : (f : ℕ → Bool) (q n : ℕ) → q < n → f q ≡ true → any_below f n ≡ true
unfolding any_below
any_below-true f q zero l h = absurd (omega arith)
any_below-true f q (suc n) l h = elim (ℕ_discrete q n) [
  | yes e ↦ let here : f n ≡ true = ap f (sym e) ∙ h in simp here
  | no e ↦ simp (any_below-true f q n (omega arith) h, or-true)
]

any_below-same : (f f' : ℕ → Bool) (n : ℕ) → ((q : ℕ) → q < n → f q ≡ f' q) → any_below f n ≡ any_below f' n
unfolding any_below
any_below-same f f' zero e = refl
any_below-same f f' (suc n) e = rw (e n (omega arith), any_below-same f f' n (λ q l. e q (omega arith)))

-- they are had from the pages below Q
pub bits-same : (g : Geometry) (pages pages' : ℕ → List Entry) → ((q : ℕ) → q < g.pages → pages q ≡ pages' q) → (b : ℕ) → has_bit g pages b ≡ has_bit g pages' b
unfolding has_bit
bits-same g pages pages' e b = any_below-same _ _ g.pages (λ q l. ap (any (λ x. any (eqb b) (bits_of g x.key))) (e q l))

-- a batch that holds the key passes it
module _ (g : Geometry) (k : ℕ) (pages : ℕ → List Entry) (q : ℕ) (inside : q < g.pages) where
  pub passes-found : (v : ℕ) → find k (pages q) ≡ Some v → passes_in g pages k ≡ true
  unfolding has_bit
  passes-found v h = passes-all g (mixed k) (has_bit g pages)
      ∙ all_true (has_bit g pages) (bits_of g k) (λ b m. any_below-true _ q g.pages inside (any_found (λ j. any (eqb b) (bits_of g j)) k v _ h m))

  pub not-passed : passes_in g pages k ≡ false → find k (pages q) ≡ None
  not-passed h = go (find k (pages q)) refl
    where
      go : (o : Option ℕ) → find k (pages q) ≡ o → o ≡ None
      go None e = refl
      go (Some v) e = let t = passes-found v e in cc

-- ---- one batch of the walk through the live batches, youngest first
module _ (g : Geometry) (k : ℕ) (p : List ℕ) where
  pub pass-take : (count n : ℕ) → 0 < count → batch_passes g k p n ≡ true → passing_from g k p count n ≡ n ∷ passing_from g k p (count - 1) (n - 1)
  unfolding passing_from
  pass-take zero n l h = absurd (omega arith)
  pass-take (suc count) n l h = let e : suc count - 1 ≡ count = omega arith in rw e (simp h)

  pub pass-skip : (count n : ℕ) → 0 < count → batch_passes g k p n ≡ false → passing_from g k p count n ≡ passing_from g k p (count - 1) (n - 1)
  unfolding passing_from
  pass-skip zero n l h = absurd (omega arith)
  pass-skip (suc count) n l h = let e : suc count - 1 ≡ count = omega arith in rw e (simp h)

  pub pass-end : (count n : ℕ) → count ≤ 0 → passing_from g k p count n ≡ []
  unfolding passing_from
  pass-end zero n l = refl
  pass-end (suc count) n l = absurd (omega arith)

  -- the batch is asked by the filter of its slot
  pub batch-asked : (n : ℕ) → batch_passes g k p n ≡ passes g (mixed k) (slot_bits g p (slot g n))
  unfolding batch_passes
  batch-asked n = refl

  pub passing-from : passing g k p ≡ passing_from g k p (live_of p) (flushes_of p)
  unfolding passing
  passing-from = refl
