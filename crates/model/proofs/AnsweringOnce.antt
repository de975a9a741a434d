-- A key has at most one entry that a get answers with.
use mathlib.Core.Bool.{true, false≢true}
use mathlib.Core.List.{List}
use mathlib.Core.Logic.{⊎_elim}
use Rattle.std.specs.Prelude.{Option, None, Some}
use mathlib.Core.Path.{◌≡◌, sym, ◌∙◌, ap}
use Prim.Native.Nat.{ℕ, ◌≤◌, ◌<◌}
use native.Mathlib.Omega.{arith}
use borrow.Author.Tests.{eqb-true}
use Rattle.model.specs.declared.Geometry.{Geometry}
use Rattle.model.specs.Keys.{page_of}
use Rattle.model.specs.Records.{key_at}
use Rattle.model.specs.Page.{searched}
use Rattle.model.specs.Partition.{Head, head_of, flushes_of, live_of}
use Rattle.model.specs.Answers.{Place, buffer, batch}
use Rattle.model.specs.Get.{sought}
use Rattle.model.specs.PartitionText.{live_batch, source, source_page, is_at, answers_in, answers_with}
use Rattle.model.proofs.Tests.{both_true}
use Rattle.model.proofs.Parts.{lt-or-ge}
use Rattle.model.proofs.Answering.{source-batch, source-buffer, answers_with_lem}

-- it is the first of its page with the key
at_first : (i : ℕ) (o : Option ℕ) → is_at i o ≡ true → o ≡ Some i
at_first i None e = absurd (false≢true e)
at_first i (Some j) e = ap Some (sym (eqb-true i j e))

module _ (g : Geometry) (t : ℕ) (p f : List ℕ) (at : Place) (q i : ℕ) where
  abbrev page : List ℕ
  page = source_page g t p f at q

  answers-first : answers_with g t p f at q i ≡ true → searched (key_at page i) page ≡ Some i
  unfolding answers_with
  answers-first e = at_first i (searched (key_at page i) page) (both_true (answers_in g t p f at q (key_at page i)) (is_at i (searched (key_at page i) page)) e).1

-- no source stands twice
module _ (h : Head) where
  source-before : (i j : ℕ) → i < h.live → j ≤ h.live → source h i ≡ source h j → i ≡ j
  source-before i j l m e = ⊎_elim
      (λ (b : j < h.live). let same : batch (live_batch h i) ≡ batch (live_batch h j) = sym (source-batch h i l) ∙ e ∙ source-batch h j b in let one : live_batch h i ≡ live_batch h j = cc in omega (arith, one))
      (λ (b : h.live ≤ j). let other : batch (live_batch h i) ≡ buffer = sym (source-batch h i l) ∙ e ∙ source-buffer h j b in let z : ◌≡◌ {A = ℕ} 0 1 = cc in absurd (omega arith))
      (lt-or-ge j h.live)

  source-once : (i j : ℕ) → i ≤ h.live → j ≤ h.live → source h i ≡ source h j → i ≡ j
  source-once i j l m e = ⊎_elim
      (λ (b : i < h.live). source-before i j b m e)
      (λ (b : h.live ≤ i). ⊎_elim (λ (d : j < h.live). sym (source-before j i d l (sym e))) (λ (d : h.live ≤ j). omega arith) (lt-or-ge j h.live))
      (lt-or-ge i h.live)

module _ (g : Geometry) (t : ℕ) (p f : List ℕ) (flushed : live_of p ≤ flushes_of p) where
  abbrev page_in : ℕ → ℕ → List ℕ
  page_in s q = source_page g t p f (source (head_of p) s) q

  abbrev Answers : ℕ → ℕ → ℕ → Type 0
  Answers s q i = answers_with g t p f (source (head_of p) s) q i ≡ true

  pub answers-once : (k s q i s' q' i' : ℕ) → s ≤ live_of p → s' ≤ live_of p → Answers s q i → Answers s' q' i' → key_at (page_in s q) i ≡ k → key_at (page_in s' q') i' ≡ k
      → (s ≡ s') × (q ≡ q') × (i ≡ i')
  answers-once k s q i s' q' i' l l' e e' key key' =
      let one = answers_with_lem g t p f flushed (source (head_of p) s) q i e in
      let other = answers_with_lem g t p f flushed (source (head_of p) s') q' i' e' in
      let alike : key_at (page_in s q) i ≡ key_at (page_in s' q') i' = key ∙ sym key' in
      let says = sym one.says ∙ ap (λ (x : ℕ). sought g x p f) alike ∙ other.says in
      let place : source (head_of p) s ≡ source (head_of p) s' = cc in
      let sources : s ≡ s' = source-once (head_of p) s s' l l' place in
      let pages : q ≡ q' = sym one.page ∙ ap (page_of g) alike ∙ other.page in
      let same : page_in s q ≡ page_in s' q' = rw (sources, pages) in
      let searches : searched (key_at (page_in s q) i) (page_in s q) ≡ searched (key_at (page_in s' q') i') (page_in s' q') = ap (λ (x : ℕ). searched x (page_in s q)) alike ∙ ap (searched (key_at (page_in s' q') i')) same in
      let firsts : Some i ≡ Some i' = sym (answers-first g t p f (source (head_of p) s) q i e) ∙ searches ∙ answers-first g t p f (source (head_of p) s') q' i' e' in
      (sources, pages, cc)
