-- The live batches that pass a key: what they leave out, what a walk through them finds, and which of them it reads.
use Prim.Native.Nat.{ℕ, zero, suc, ◌+◌, ◌-◌, ◌≤◌, ◌<◌}
use mathlib.Core.Bool.{cond}
use mathlib.Core.Path.{◌≡◌, refl}
use mathlib.Core.List.{List, [], ◌∷◌}
use Rattle.std.specs.Prelude.{Option, None, Some}
use native.Mathlib.Omega.{arith}
use native.Mathlib.Decide.{ℕ_discrete}
use lib.ListN.{length}
use Rattle.model.specs.declared.Geometry.{Geometry}
use Rattle.model.specs.Search.{is_some}
use Rattle.model.specs.Keys.{page_of}
use Rattle.model.specs.Answers.{batch}
use Rattle.model.proofs.Tests.{either}
use Rattle.model.proofs.Tables.{find, passes_in}
use Rattle.model.proofs.Passing.{passes-found, not-passed}
use Rattle.history.proofs.Bare.{Bare, value, nothing}
use Rattle.history.proofs.Table.{Part, Live, passing_from, passing}

-- what batch n holds of the key
abbrev pub look_in : Geometry → ℕ → Part → ℕ → Option ℕ
look_in g k p n = find k (p.batch n (page_of g k))

abbrev pub answer_at : Option ℕ → ℕ → Bare → Bare
answer_at (Some v) n later = value v (batch n)
answer_at None n later = later

-- the walk's answer, and the batches that it reads
unfoldable pub walk : (ℕ → Option ℕ) → List ℕ → Bare
walk look [] = nothing
walk look (n ∷ ns) = answer_at (look n) n (walk look ns)

unfoldable pub walk_read : (ℕ → Option ℕ) → List ℕ → List ℕ
walk_read look [] = []
walk_read look (n ∷ ns) = n ∷ cond (is_some (look n)) [] (walk_read look ns)

-- live batches of the partition, each below the one before, all below `high`: none stands twice
abbrev pub LiveBatches : Part → ℕ → List ℕ → Type 0
LiveBatches p high [] = Unit {0}
LiveBatches p high (n ∷ ns) = Live p n × (n < high) × LiveBatches p n ns

-- so there are no more of them than the live number
count-below : (p : Part) (high : ℕ) (ns : List ℕ) → p.flushes < high + p.live → LiveBatches p high ns → length ns + suc p.flushes ≤ high + p.live
count-below p high [] l f = omega arith
count-below p high (n ∷ ns) l f = omega (arith, count-below p n ns f.0.near f.2, f.1)

pub live-count : (p : Part) (ns : List ℕ) → LiveBatches p (suc p.flushes) ns → length ns ≤ p.live
live-count p ns f = omega (arith, count-below p (suc p.flushes) ns (omega arith) f)

pub walk-live : (look : ℕ → Option ℕ) (p : Part) (high : ℕ) (ns : List ℕ) → LiveBatches p high ns → LiveBatches p high (walk_read look ns)
unfolding walk_read
walk-live look p high [] f = tt
walk-live look p high (n ∷ ns) f = (
  f.0,
  f.1,
  either (is_some (look n))
      (λ h. simp h tt)
      (λ h. simp h (walk-live look p n ns f.2)),
)

-- batch m is younger than the first of these
abbrev pub Above : ℕ → List ℕ → Type 0
Above m [] = Unit {0}
Above m (n ∷ ns) = n < m

module _ (g : Geometry) (k : ℕ) (p : Part) where
  from-live : (count n high : ℕ) → count ≤ n → n ≤ p.flushes → p.flushes + count ≤ n + p.live → n < high → LiveBatches p high (passing_from g k p count n)
  unfolding passing_from
  from-live zero n high x y z w = tt
  from-live (suc count) n high x y z w = either (passes_in g (p.batch n) k)
      (λ e. simp e (record { first = omega arith; flushed = y; near = omega arith }, w, from-live count (n - 1) n (omega arith) (omega arith) (omega arith) (omega arith)))
      (λ e. simp e (from-live count (n - 1) high (omega arith) (omega arith) (omega arith) (omega arith)))

  -- those that pass are live batches, youngest first
  pub passing-live : p.live ≤ p.flushes → LiveBatches p (suc p.flushes) (passing g k p)
  passing-live within = from-live p.live p.flushes _ within (omega arith) (omega arith) (omega arith)

  module _ (inside : page_of g k < g.pages) where
    -- a batch that is younger than all that pass does not hold the key
    pub skipped : (count n m : ℕ) → m ≤ n → n < m + count → Above m (passing_from g k p count n) → look_in g k p m ≡ None
    unfolding passing_from
    skipped zero n m l h above = absurd (omega arith)
    skipped (suc count) n m l h above = either (passes_in g (p.batch n) k)
        (λ w. let z : n < m = simp w at above in absurd (omega arith))
        (λ w. elim (ℕ_discrete m n) [
          | yes e ↦ rw e (not-passed g k (p.batch n) (page_of g k) inside w)
          | no e ↦ skipped count (n - 1) m (omega arith) (omega arith) (simp w at above)
        ])

    -- a walk finds the youngest, and says where
    pub walk-finds : (count n m v : ℕ) → m ≤ n → n < m + count → look_in g k p m ≡ Some v
        → ((b : ℕ) → m < b → b ≤ n → look_in g k p b ≡ None) → walk (look_in g k p) (passing_from g k p count n) ≡ value v (batch m)
    unfolding walk passing_from
    walk-finds zero n m v l h here silent = absurd (omega arith)
    walk-finds (suc count) n m v l h here silent = elim (ℕ_discrete m n) [
      | yes e ↦
          (let here' : find k (p.batch n (page_of g k)) ≡ Some v = rw e at here in
          rw e (simp (passes-found g k (p.batch n) (page_of g k) inside v here', here')))
      | no e ↦ either (passes_in g (p.batch n) k)
          (λ w. simp (w, silent n (omega arith) (omega arith))
          (walk-finds count (n - 1) m v (omega arith) (omega arith) here (λ b x y. silent b x (omega arith))))
          (λ w. simp w
          (walk-finds count (n - 1) m v (omega arith) (omega arith) here (λ b x y. silent b x (omega arith))))
    ]

    pub walk-misses : (count n : ℕ) → count ≤ n → ((b : ℕ) → n < b + count → b ≤ n → look_in g k p b ≡ None)
        → walk (look_in g k p) (passing_from g k p count n) ≡ nothing
    unfolding walk passing_from
    walk-misses zero n f silent = refl
    walk-misses (suc count) n f silent = either (passes_in g (p.batch n) k)
        (λ w. simp (w, silent n (omega arith) (omega arith)) (walk-misses count (n - 1) (omega arith) (λ b x y. silent b (omega arith) (omega arith))))
        (λ w. simp w (walk-misses count (n - 1) (omega arith) (λ b x y. silent b (omega arith) (omega arith))))
