-- Flash after a flush: the pages of the new batch, and every other page as it was.
use Prim.Native.Nat.{ℕ, zero, suc, ◌+◌, ◌-◌, ◌≤◌, ◌<◌, ◌%◌, ◌/◌}
use mathlib.Core.Bool.{true}
use mathlib.Core.Path.{◌≡◌, refl, sym, ◌∙◌, ap}
use mathlib.Core.List.{List}
use native.Mathlib.Numerals.{add-one}
use native.Mathlib.Omega.{arith}
use native.Mathlib.Nat.{div-add-mod', mul-le-mul_right}
use native.Mathlib.Decide.{ℕ_discrete, dec_le}
use lib.ListN.{length}
use Rattle.model.specs.declared.Geometry.{Geometry}
use Rattle.model.specs.Bytes.{mid, within}
use Rattle.model.specs.Geometry.{allowed, partitions, flash_need, slot_page_at, stride, buffer_at}
use Rattle.model.specs.Page.{numbered}
use Rattle.model.specs.Partition.{flushes_of, buffer_of, slot}
use Rattle.model.specs.Flush.{with_batch_page, with_batch}
use Rattle.model.proofs.Parts.{length-mid, mid-within, mid-within-out}
use Rattle.model.proofs.Sizes.{slot-page-fits, slot-pages-apart, slot_lt, buffer-fits}
use Rattle.model.proofs.Lengths.{length-numbered, length-with_batch}

-- two numbers less than K apart differ mod K
mod-apart : (K a b : ℕ) → a < b → b < a + K → a % K ≡ b % K → ⊥
mod-apart K a b l near e = elim (dec_le (b / K) (a / K)) [
  | yes h ↦ omega (arith, mul-le-mul_right K h, div-add-mod' a K, div-add-mod' b K)
  | no h ↦
      (let up : suc (a / K) ≤ b / K = omega arith in
      omega (arith, mul-le-mul_right K up, div-add-mod' a K, div-add-mod' b K))
]

-- the next batch takes the slot of none that stays live
pub slot_apart : (g : Geometry) (F n : ℕ) → 1 ≤ n → n ≤ F → suc F < n + g.kept → slot g n ≡ slot g (F + 1) → ⊥
slot_apart g F n first old stays e = mod-apart g.kept (n - 1) (F + 1 - 1) (omega arith) (omega arith) e

module _ (g : Geometry) (ok : allowed g ≡ true) (t : ℕ) (below : t < partitions g) (p f : List ℕ) (fits : flash_need g ≤ length f) where
  -- every page of another partition or slot
  pub batch-out : (n u j q : ℕ) → n ≤ g.pages → u < partitions g → j < g.kept → q < g.pages
      → (u ≡ t → j ≡ slot g (flushes_of p + 1) → ⊥) → mid (slot_page_at g u j q) g.page (with_batch g t p n f) ≡ mid (slot_page_at g u j q) g.page f
  unfolding with_batch_page with_batch
  batch-out zero u j q m lu lj lq other = refl
  batch-out (suc n) u j q m lu lj lq other =
      mid-within-out _ _ _ (with_batch g t p n f) _ _ (omega (arith, length-with_batch g t p n f, slot-page-fits g u j q lu lj lq))
      (slot-pages-apart g t (slot g (flushes_of p + 1)) n u j q (slot_lt g ok _) lj m lq (λ a b c. other (sym a) (sym b)))
      ∙ batch-out n u j q (omega arith) lu lj lq other

  -- a page of the batch
  pub batch-page : length p ≡ stride g → (n q : ℕ) → n ≤ g.pages → q < n
      → mid (slot_page_at g t (slot g (flushes_of p + 1)) q) g.page (with_batch g t p n f) ≡ numbered (flushes_of p + 1) (buffer_of g p q)
  unfolding with_batch_page with_batch
  batch-page long zero q m lq = absurd (omega arith)
  batch-page long (suc n) q m lq =
      let j = slot g (flushes_of p + 1) in
      let lj = slot_lt g ok (flushes_of p + 1) in
      let batch : ℕ → List ℕ → List ℕ = λ r _. numbered (flushes_of p + 1) (buffer_of g p r) in
      elim (ℕ_discrete q n) [
        | yes e ↦ rw e (mid-within (slot_page_at g t j n) g.page (batch n) (with_batch g t p n f) (omega (arith, length-with_batch g t p n f, slot-page-fits g t j n below lj m))
            (length-numbered (flushes_of p + 1) (buffer_of g p n) ∙ length-mid (buffer_at g n) g.page p (omega (arith, buffer-fits g n m))))
        | no e ↦ mid-within-out (slot_page_at g t j n) g.page (batch n) (with_batch g t p n f) _ _ (omega (arith, length-with_batch g t p n f, slot-page-fits g t j q below lj (omega arith)))
            (slot-pages-apart g t j n t j q lj lj m (omega arith) (λ a b c. e (sym c)))
            ∙ batch-page long n q (omega arith) (omega arith)
      ]

-- ---- one page, by the numbers that its writer finds
pub page-written : (g : Geometry) (t q : ℕ) (f : List ℕ) {p p' f' : List ℕ} {n j at from : ℕ} → p' ≡ p → n ≡ flushes_of p + 1 → j ≡ slot g n → at ≡ slot_page_at g t j q → from ≡ buffer_at g q
    → f' ≡ within at g.page (λ _. numbered n (mid from g.page p')) f → f' ≡ with_batch_page g t p q f
unfolding with_batch_page
page-written g t q f ep en ej eat efrom e = e ∙ rw (eat, ej, en, efrom, ep)

-- it is written from the number of flushes and its buffer page alone
pub page-same : (g : Geometry) (t q : ℕ) (p p' f : List ℕ) → flushes_of p ≡ flushes_of p' → buffer_of g p q ≡ buffer_of g p' q → with_batch_page g t p q f ≡ with_batch_page g t p' q f
unfolding with_batch_page
page-same g t q p p' f e b = rw (e, b)

-- ---- one page more, for a loop that writes them
module _ (g : Geometry) (t : ℕ) (p f : List ℕ) where
  pub batch-none : with_batch g t p 0 f ≡ f
  unfolding with_batch
  batch-none = refl

  pub batch-next : (q : ℕ) → with_batch g t p (q + 1) f ≡ with_batch_page g t p q (with_batch g t p q f)
  unfolding with_batch
  batch-next q = rw add-one

  -- a batch is written from the number of flushes and the buffer alone
  pub batch-same : (p' : List ℕ) → flushes_of p ≡ flushes_of p' → ((q : ℕ) → q < g.pages → buffer_of g p q ≡ buffer_of g p' q) → (n : ℕ) → n ≤ g.pages → with_batch g t p n f ≡ with_batch g t p' n f
  unfolding with_batch
  batch-same p' e b zero l = refl
  batch-same p' e b (suc n) l = ap (with_batch_page g t p n) (batch-same p' e b n (omega arith)) ∙ page-same g t n p p' _ e (b n (omega arith))
