-- Where a text of a partition is accepted, so is a get of each of its keys: what 12 and 13 judge there is all judged by the text.
use mathlib.Core.Bool.{true, false, not}
use mathlib.Core.List.{List}
use Rattle.std.specs.Prelude.{Option, None, Some}
use mathlib.Core.Path.{◌≡◌, refl, sym, ◌∙◌, ap}
use Prim.Native.Nat.{ℕ, zero, suc, ◌+◌, ◌-◌, ◌≤◌, ◌<◌}
use native.Mathlib.Omega.{arith}
use borrow.Author.Tests.{not-false}
use Rattle.model.specs.declared.Geometry.{Geometry}
use Rattle.model.specs.Search.{is_some}
use Rattle.model.specs.Geometry.{partitions}
use Rattle.model.specs.Keys.{partition_of, page_of}
use Rattle.model.specs.Page.{searched, compared, expected}
use Rattle.model.specs.DeleteList.{listed_at}
use Rattle.model.specs.Partition.{partition, head_of, listed_of, list_of, flushes_of, live_of, buffer_of, is_live, oldest, batch_passes, passing_from, passing}
use Rattle.model.specs.Batch.{batch_page, failed_page}
use Rattle.model.specs.Answers.{Areas, Place, buffer, batch, Tally, tally, Answer, absent, refused}
use Rattle.model.specs.Refusals.{head_overfull, some_page_overfull}
use Rattle.model.specs.Get.{get_checks, hit_in, reported, read_through, sought}
use Rattle.model.specs.PartitionText.{live_batch, some_batch_fails}
use Rattle.model.specs.Calls.{get, text, geometry_in, partition_in, checks, reply}
use Rattle.model.proofs.Tests.{either}
use Rattle.model.proofs.Searching.{first-none}
use Rattle.model.proofs.Sizes.{page-of-lt}
use Rattle.model.proofs.Heads.{head-fits, live-bounds, bounds-live}
use Rattle.model.proofs.Passing.{pass-take, pass-skip, pass-end, passing-from}
use Rattle.model.proofs.Checks.{none_found, pages-fit, fits-key, text-accepted}
use Rattle.model.proofs.KeyedChecks.{get-passes}
use Rattle.model.proofs.Lookup.{with_page, read_none, read-batch, sought-listed, sought-unlisted}
use Rattle.model.proofs.Calls.{Opened, opens, opened, later-passed, checks-get, result-get, reply-accepted}

-- ---- each page of a live batch is the one expected
module _ (g : Geometry) (t : ℕ) (p f : List ℕ) (batches : some_batch_fails g t p f ≡ false) where
  none-fails : (i : ℕ) → i < live_of p → failed_page g t f (live_batch (head_of p) i) ≡ None
  unfolding some_batch_fails
  none-fails i l = none_found _ (first-none (λ j. is_some (failed_page g t f (live_batch (head_of p) j))) (live_of p) 0 (none_found _ batches) i (omega arith) (omega arith))

  pub live-expected : (n q : ℕ) → is_live (head_of p) n ≡ true → q < g.pages → expected g t n q (batch_page g t f n q) ≡ true
  live-expected n q e l =
      let b = live-bounds (head_of p) n e in
      let same : live_batch (head_of p) (n - oldest (head_of p)) ≡ n = omega (arith, b) in
      let fails : failed_page g t f n ≡ None = rw same at (none-fails (n - oldest (head_of p)) (omega (arith, b))) in
      not-false _ (first-none (λ j. not (expected g t n j (batch_page g t f n j))) g.pages 0 fails q (omega arith) (omega arith))

-- ---- so a get that reads them is not refused
later-refused : (page : List ℕ) (cost : Tally) (place : Place) (o : Option ℕ) (later : Answer) (m r : ℕ) → hit_in page cost place o later ≡ refused m r → later ≡ refused m r
later-refused page cost place None later m r e = e
later-refused page cost place (Some i) later m r e = let z : ◌≡◌ {A = ℕ} 0 1 = cc in absurd (omega arith)

module _ (g : Geometry) (k : ℕ) (p f : List ℕ) (flushed : live_of p ≤ flushes_of p)
    (whole : (n : ℕ) → is_live (head_of p) n ≡ true → expected g (partition_of g k) n (page_of g k) (batch_page g (partition_of g k) f n (page_of g k)) ≡ true) (m r : ℕ) where
  through : (count n : ℕ) (cost : Tally) → count ≤ live_of p → n ≡ flushes_of p - live_of p + count → read_through g k f (passing_from g k p count n) cost ≡ refused m r → ⊥
  through zero n cost l e x = let a : absent (reported g cost) ≡ refused m r = sym (ap (λ ns. read_through g k f ns cost) (pass-end g k p 0 n (omega arith)) ∙ read_none g k f cost) ∙ x in let z : ◌≡◌ {A = ℕ} 0 1 = cc in omega arith
  through (suc count) n cost l e x =
      let less : suc count - 1 ≡ count = omega arith in
      let page : List ℕ = batch_page g (partition_of g k) f n (page_of g k) in
      either (batch_passes g k p n)
      (λ passes. through count (n - 1) (with_page g k f n cost) (omega arith) (omega arith)
      (later-refused page (reported g (with_page g k f n cost)) (batch n) (searched k page) (read_through g k f (passing_from g k p count (n - 1)) (with_page g k f n cost)) m r
      (rw (pass-take g k p (suc count) n (omega arith) passes, less, read-batch g k f n (passing_from g k p count (n - 1)) cost, whole n (bounds-live (head_of p) n (omega arith) (omega arith) (omega arith))) at x)))
      (λ skips. through count (n - 1) cost (omega arith) (omega arith) (rw (pass-skip g k p (suc count) n (omega arith) skips, less) at x))

  sought-accepted : sought g k p f ≡ refused m r → ⊥
  sought-accepted x = go (listed_at (listed_of p) k (list_of g p)) refl
    where
      go : (o : Option ℕ) → listed_at (listed_of p) k (list_of g p) ≡ o → ⊥
      go (Some i) e = let a : absent (tally 0 0) ≡ refused m r = sym (sought-listed g k f p i e) ∙ x in let z : ◌≡◌ {A = ℕ} 0 1 = cc in omega arith
      go None e =
          let page : List ℕ = buffer_of g p (page_of g k) in
          let cost : Tally = tally 0 (compared k page) in
          through (live_of p) (flushes_of p) cost (omega arith) (omega (arith, flushed))
          (rw (passing-from g k p) at (later-refused page cost buffer (searched k page) (read_through g k f (passing g k p) cost) m r (sym (sought-unlisted g k f p e) ∙ x)))

-- ---- what an accepted text gives
module _ (a : Areas) (t room : ℕ) (passed : checks a (text t room) ≡ None) where
  abbrev g : Geometry
  g = geometry_in a

  abbrev p : List ℕ
  p = partition_in a t

  fits : Opened a × (t < partitions g) × (head_overfull g (head_of p) ≡ false) × (some_page_overfull g p ≡ false) × (some_batch_fails g t p a.flash ≡ false)
  unfolding checks
  fits = let c = text-accepted g t room p a.flash (later-passed a _ passed) in (opened a _ passed, c.0, c.1, c.2, c.3)

  pub text-flushed : live_of p ≤ flushes_of p
  text-flushed = (head-fits g (head_of p) fits.2).flushed

  pub text-page : (k : ℕ) → page_of g k < g.pages
  text-page k = page-of-lt g fits.0.fine k

  module _ (k : ℕ) (own : partition_of g k ≡ t) where
    pub get-seeks : reply a (get k) ≡ sought g k p a.flash
    get-seeks =
        let passes : get_checks g k (partition g (partition_of g k) a.memory) ≡ None = rw own (get-passes g k p (fits-key g p k fits.2 (pages-fit g p fits.3 (page_of g k) (text-page k)))) in
        reply-accepted a (get k) (checks-get a g refl (opens a fits.0) k ∙ passes) ∙ result-get a g refl k ∙ ap (λ (u : ℕ). sought g k (partition g u a.memory) a.flash) own

    pub get-accepted : (m r : ℕ) → reply a (get k) ≡ refused m r → ⊥
    get-accepted m r x = sought-accepted g k p a.flash text-flushed (λ n alive. rw own (live-expected g t p a.flash fits.4 n (page_of g k) alive (text-page k))) m r (sym get-seeks ∙ x)
