-- A text read line by line, and its pieces one behind another: the areas and the history that it ends with, that no key is forgotten, and which keys are known then.
use Prim.Native.Nat.{ℕ, zero, suc, ◌≤◌, ◌<◌}
use mathlib.Core.Bool.{true}
use mathlib.Core.Path.{◌≡◌}
use mathlib.Core.List.{List, []}
use native.Mathlib.Omega.{arith}
use native.Mathlib.Decide.{ℕ_discrete}
use Rattle.model.specs.Search.{is_some}
use Rattle.model.specs.Answers.{Areas}
use Rattle.model.specs.PartitionText.{joined}
use Rattle.model.proofs.Joining.{joined-none, joined-more}
use Rattle.history.specs.History.{History}
use Rattle.history.proofs.LineReading.{Reads, reads_none, reads-append}

-- P of what is left, and K the keys that have a line
pub record Ends (xs : List ℕ) (b : Areas) (h : History) (P : Areas → History → Type 0) (K : ℕ → Type 0) : Type 0 where
  pub areas : Areas
  pub history : History
  pub reads : Reads xs b areas
  pub grows : (k : ℕ) → is_some (h.keys k) ≡ true → is_some (history.keys k) ≡ true
  pub holds : P areas history
  pub knows : (k : ℕ) → K k → is_some (history.keys k) ≡ true

-- no text
pub ends-none : {b : Areas} {h : History} {P : Areas → History → Type 0} {K : ℕ → Type 0} → P b h → ((k : ℕ) → K k → ⊥) → Ends [] b h P K
ends-none {b} {h} p without = record { areas = b; history = h; reads = reads_none b; grows = λ k e. e; holds = p; knows = λ k stands. absurd (without k stands) }

-- less of what is left, and of fewer keys
pub ends-map : {xs : List ℕ} {b : Areas} {h : History} {P P' : Areas → History → Type 0} {K K' : ℕ → Type 0}
    → ((b' : Areas) (h' : History) → P b' h' → P' b' h') → ((k : ℕ) → K' k → K k) → Ends xs b h P K → Ends xs b h P' K'
ends-map holds knows ends = record {
  areas = ends.areas;
  history = ends.history;
  reads = ends.reads;
  grows = ends.grows;
  holds = holds ends.areas ends.history ends.holds;
  knows = λ k stands. ends.knows k (knows k stands);
}

-- a key that has a line in one of the first n pieces
pub record Upto (n : ℕ) (K : ℕ → ℕ → Type 0) (k : ℕ) : Type 0 where
  pub piece : ℕ
  pub below : piece < n
  pub stands : K piece k

module _ (f : ℕ → List ℕ) (P : ℕ → Areas → History → Type 0) (K : ℕ → ℕ → Type 0) (limit : ℕ)
    (one : (n : ℕ) → n < limit → (b : Areas) (h : History) → P n b h → Ends (f n) b h (P (suc n)) (K n)) where
  pub ends-joined : (n : ℕ) → n ≤ limit → (b : Areas) (h : History) → P 0 b h → Ends (joined n f) b h (P n) (Upto n K)
  ends-joined zero l b h p = rw (joined-none f) (ends-none p (λ k upto. omega (arith, upto.below)))
  ends-joined (suc n) l b h p =
      let first = ends-joined n (omega arith) b h p in
      let last = one n l first.areas first.history first.holds in
      rw (joined-more n f) (record {
        areas = last.areas;
        history = last.history;
        reads = reads-append first.reads last.reads;
        grows = λ k e. last.grows k (first.grows k e);
        holds = last.holds;
        knows = λ k upto. elim (ℕ_discrete upto.piece n) [
          | yes e ↦ last.knows k (rw e at upto.stands)
          | no e ↦ last.grows k (first.knows k (record { piece = upto.piece; below = omega (arith, upto.below); stands = upto.stands }))
        ];
      })
