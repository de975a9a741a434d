-- The entry that a get answers with: an entry of a source that answers is what a get of its key finds, and what a get finds is such an entry.
use mathlib.Core.Bool.{true, cond, ◌&&◌}
use mathlib.Core.List.{List, ◌∷◌}
use mathlib.Core.Logic.{◌⊎◌, inl, inr, ⊎_elim}
use Rattle.std.specs.Prelude.{Option, None, Some}
use mathlib.Core.Path.{◌≡◌, refl, sym, ◌∙◌, ap}
use Prim.Native.Nat.{ℕ, zero, suc, ◌+◌, ◌-◌, ◌≤◌, ◌<◌}
use native.Mathlib.Omega.{arith}
use lib.Dec.{eqb}
use borrow.Author.Tests.{eq-eqb, eqb-true, lt-ltb, le-ltb}
use Rattle.model.specs.declared.Geometry.{Geometry}
use Rattle.model.specs.Keys.{partition_of, page_of}
use Rattle.model.specs.Records.{key_at}
use Rattle.model.specs.Page.{count_of, value_at, searched, compared, expected}
use Rattle.model.specs.DeleteList.{listed_at}
use Rattle.model.specs.Partition.{Head, head_of, listed_of, list_of, flushes_of, live_of, buffer_of, batch_passes, passing_from, passing}
use Rattle.model.specs.Batch.{batch_page}
use Rattle.model.specs.Answers.{Place, buffer, batch, Tally, tally, Answer, done, found, absent, shown, refused}
use Rattle.model.specs.Get.{hit_in, reads_for, reported, read_through, sought}
use Rattle.model.specs.PartitionText.{live_batch, source, source_page, is_place, is_found_in, answers_in, is_at, answers_with}
use Rattle.model.proofs.Tests.{either, both_true}
use Rattle.model.proofs.Searching.{first-at}
use Rattle.model.proofs.Passing.{pass-take, pass-skip, pass-end, passing-from}
use Rattle.model.proofs.Lookup.{with_page, read_none, read-batch, sought-listed, sought-unlisted}

-- ---- what a search of a page leaves a get to answer
hit-or-later : (page : List ℕ) (cost : Tally) (place : Place) (o : Option ℕ) (later : Answer) (v : ℕ) (c : Tally) (at : Place) → hit_in page cost place o later ≡ found v c at
    → ((i : ℕ) × (o ≡ Some i) × (value_at page i ≡ v) × (place ≡ at)) ⊎ (later ≡ found v c at)
hit-or-later page cost place None later v c at e = inr e
hit-or-later page cost place (Some i) later v c at e = inl (i, refl, cc, cc)

-- ---- the places that a text goes through
module _ (h : Head) (i : ℕ) where
  pub source-batch : i < h.live → source h i ≡ batch (live_batch h i)
  unfolding source
  source-batch l = rw (lt-ltb i h.live l)

  pub source-buffer : h.live ≤ i → source h i ≡ buffer
  unfolding source
  source-buffer l = rw (le-ltb i h.live l)

-- ---- a get of k finds v at a source, which holds it at the entry that a search of the key's page gives
record Hit (g : Geometry) (k : ℕ) (p f : List ℕ) (v : ℕ) (at : Place) : Type 0 where
  number : ℕ
  below : number ≤ live_of p
  here : source (head_of p) number ≡ at
  entry : ℕ
  first : searched k (source_page g (partition_of g k) p f at (page_of g k)) ≡ Some entry
  value : value_at (source_page g (partition_of g k) p f at (page_of g k)) entry ≡ v

module _ (g : Geometry) (k : ℕ) (p f : List ℕ) (v : ℕ) (c : Tally) (at : Place) where
  -- what the search of one source gives, if the answer is its
  hit : (number entry : ℕ) (place : Place) → number ≤ live_of p → source (head_of p) number ≡ place → searched k (source_page g (partition_of g k) p f place (page_of g k)) ≡ Some entry
      → value_at (source_page g (partition_of g k) p f place (page_of g k)) entry ≡ v → place ≡ at → Hit g k p f v at
  hit number entry place l here first value same =
      record { number = number; below = l; here = here ∙ same; entry = entry; first = rw (← same) first; value = rw (← same) value }

  -- through a live batch, or behind it
  one : (i n : ℕ) (cost : Tally) (ns : List ℕ) → i < live_of p → n ≡ live_batch (head_of p) i → read_through g k f (n ∷ ns) cost ≡ found v c at → Hit g k p f v at ⊎ (read_through g k f ns (with_page g k f n cost) ≡ found v c at)
  one i n cost ns l e r =
      let page : List ℕ = batch_page g (partition_of g k) f n (page_of g k) in
      let read : cond (expected g (partition_of g k) n (page_of g k) page) (hit_in page (reported g (with_page g k f n cost)) (batch n) (searched k page) (read_through g k f ns (with_page g k f n cost))) (refused 13 (reads_for g (cost.reads + 1))) ≡ found v c at = sym (read-batch g k f n ns cost) ∙ r in
      either (expected g (partition_of g k) n (page_of g k) page)
      (λ good. ⊎_elim (λ w. inl (hit i w.0 (batch n) (omega arith) (source-batch (head_of p) i l ∙ ap batch (sym e)) w.1 w.2 w.3)) (λ later. inr later)
      (hit-or-later page (reported g (with_page g k f n cost)) (batch n) (searched k page) (read_through g k f ns (with_page g k f n cost)) v c at (rw good at read)))
      (λ bad. let a : refused 13 (reads_for g (cost.reads + 1)) ≡ found v c at = rw bad at read in let z : ◌≡◌ {A = ℕ} 0 1 = cc in absurd (omega arith))

  through : (count n : ℕ) (cost : Tally) → count ≤ live_of p → n ≡ flushes_of p - live_of p + count → read_through g k f (passing_from g k p count n) cost ≡ found v c at → Hit g k p f v at
  through zero n cost l e r = let a : absent (reported g cost) ≡ found v c at = sym (ap (λ ns. read_through g k f ns cost) (pass-end g k p 0 n (omega arith)) ∙ read_none g k f cost) ∙ r in let z : ◌≡◌ {A = ℕ} 0 1 = cc in absurd (omega arith)
  through (suc count) n cost l e r =
      let less : suc count - 1 ≡ count = omega arith in
      either (batch_passes g k p n)
      (λ passes. ⊎_elim (λ h. h) (λ later. through count (n - 1) (with_page g k f n cost) (omega arith) (omega arith) later)
      (one count n cost (passing_from g k p count (n - 1)) (omega arith) (omega arith) (rw (pass-take g k p (suc count) n (omega arith) passes, less) at r)))
      (λ skips. through count (n - 1) cost (omega arith) (omega arith) (rw (pass-skip g k p (suc count) n (omega arith) skips, less) at r))

  found-hit : live_of p ≤ flushes_of p → sought g k p f ≡ found v c at → Hit g k p f v at
  found-hit flushed r = go (listed_at (listed_of p) k (list_of g p)) refl
    where
      go : (o : Option ℕ) → listed_at (listed_of p) k (list_of g p) ≡ o → Hit g k p f v at
      go (Some i) e = let a : absent (tally 0 0) ≡ found v c at = sym (sought-listed g k f p i e) ∙ r in let z : ◌≡◌ {A = ℕ} 0 1 = cc in absurd (omega arith)
      go None e =
          let page : List ℕ = buffer_of g p (page_of g k) in
          let cost : Tally = tally 0 (compared k page) in
          ⊎_elim (λ w. hit (live_of p) w.0 buffer (omega arith) (source-buffer (head_of p) (live_of p) (omega arith)) w.1 w.2 w.3)
          (λ later. through (live_of p) (flushes_of p) cost (omega arith) (omega (arith, flushed)) (rw (passing-from g k p) at later))
          (hit-or-later page cost buffer (searched k page) (read_through g k f (passing g k p) cost) v c at (sym (sought-unlisted g k f p e) ∙ r))

-- ---- an entry of a source that answers is what a get of its key finds there
pub record Answered (g : Geometry) (t : ℕ) (p f : List ℕ) (at : Place) (q i : ℕ) : Type 0 where
  pub partition : partition_of g (key_at (source_page g t p f at q) i) ≡ t
  pub page : page_of g (key_at (source_page g t p f at q) i) ≡ q
  pub cost : Tally
  pub says : sought g (key_at (source_page g t p f at q) i) p f ≡ found (value_at (source_page g t p f at q) i) cost at

same_place : (at place : Place) → is_place at place ≡ true → at ≡ place
same_place buffer buffer e = refl
same_place buffer (batch n) e = let z : ◌≡◌ {A = ℕ} 0 1 = cc in absurd (omega arith)
same_place (batch n) buffer e = let z : ◌≡◌ {A = ℕ} 0 1 = cc in absurd (omega arith)
same_place (batch n) (batch m) e = ap batch (eqb-true n m e)

found-there : (at : Place) (a : Answer) → is_found_in at a ≡ true → (v : ℕ) × (c : Tally) × (a ≡ found v c at)
found-there at (found v c place) e = (v, c, ap (found v c) (sym (same_place at place e)))
found-there at (absent c) e = let z : ◌≡◌ {A = ℕ} 0 1 = cc in absurd (omega arith)
found-there at (done n) e = let z : ◌≡◌ {A = ℕ} 0 1 = cc in absurd (omega arith)
found-there at (shown s) e = let z : ◌≡◌ {A = ℕ} 0 1 = cc in absurd (omega arith)
found-there at (refused n r) e = let z : ◌≡◌ {A = ℕ} 0 1 = cc in absurd (omega arith)

there-found : (at : Place) (v : ℕ) (c : Tally) → is_found_in at (found v c at) ≡ true
there-found buffer v c = refl
there-found (batch n) v c = eq-eqb n n refl

at_entry : (i j : ℕ) (o : Option ℕ) → o ≡ Some j → is_at i o ≡ true → i ≡ j
at_entry i j o e h = eqb-true i j (rw e at h)

module _ (g : Geometry) (t : ℕ) (p f : List ℕ) (flushed : live_of p ≤ flushes_of p) where
  pub answers_with_lem : (at : Place) (q i : ℕ) → answers_with g t p f at q i ≡ true → Answered g t p f at q i
  unfolding answers_with answers_in
  answers_with_lem at q i h =
      let page : List ℕ = source_page g t p f at q in
      let k : ℕ = key_at page i in
      let both = both_true (answers_in g t p f at q k) (is_at i (searched k page)) h in
      let two = both_true (eqb (partition_of g k) t && eqb (page_of g k) q) (is_found_in at (sought g k p f)) both.0 in
      let one = both_true (eqb (partition_of g k) t) (eqb (page_of g k) q) two.0 in
      let part : partition_of g k ≡ t = eqb-true _ _ one.0 in
      let number : page_of g k ≡ q = eqb-true _ _ one.1 in
      let got = found-there at (sought g k p f) two.1 in
      let there = found-hit g k p f got.0 got.1 at flushed got.2 in
      let same : source_page g (partition_of g k) p f at (page_of g k) ≡ page = ap (λ (u : ℕ). source_page g u p f at (page_of g k)) part ∙ ap (source_page g t p f at) number in
      let entry : i ≡ there.entry = at_entry i there.entry (searched k page) (ap (searched k) (sym same) ∙ there.first) both.1 in
      let value : value_at page i ≡ got.0 = ap (value_at page) entry ∙ ap (λ (xs : List ℕ). value_at xs there.entry) (sym same) ∙ there.value in
      record { partition = part; page = number; cost = got.1; says = got.2 ∙ ap (λ (v : ℕ). found v got.1 at) (sym value) }

module _ (g : Geometry) (t : ℕ) (p f : List ℕ) where
  -- an entry answers by its key
  answers_by : (at : Place) (q i k : ℕ) → key_at (source_page g t p f at q) i ≡ k → partition_of g k ≡ t → page_of g k ≡ q → is_found_in at (sought g k p f) ≡ true → searched k (source_page g t p f at q) ≡ Some i → answers_with g t p f at q i ≡ true
  unfolding answers_with answers_in
  answers_by at q i k key part number here first = rw (key, eq-eqb _ _ part, eq-eqb _ _ number, here, first, eq-eqb i i refl)

-- ---- what a get finds stands at a place of a page of a source
abbrev source_at : List ℕ → ℕ → Place
source_at p i = source (head_of p) i

pub record Standing (g : Geometry) (t : ℕ) (p f : List ℕ) (k v : ℕ) : Type 0 where
  pub source : ℕ
  pub source_below : source ≤ live_of p
  pub place : ℕ
  pub place_below : place < count_of (source_page g t p f (source_at p source) (page_of g k))
  pub answers : answers_with g t p f (source_at p source) (page_of g k) (place + 1) ≡ true
  pub key : key_at (source_page g t p f (source_at p source) (page_of g k)) (place + 1) ≡ k
  pub value : value_at (source_page g t p f (source_at p source) (page_of g k)) (place + 1) ≡ v

module _ (g : Geometry) (t : ℕ) (p f : List ℕ) (flushed : live_of p ≤ flushes_of p) where
  pub found-stands : (k v : ℕ) (c : Tally) (at : Place) → partition_of g k ≡ t → sought g k p f ≡ found v c at → Standing g t p f k v
  found-stands k v c at part says =
      let there = found-hit g k p f v c at flushed says in
      let near : List ℕ = source_page g t p f (source_at p there.number) (page_of g k) in
      let same : source_page g (partition_of g k) p f at (page_of g k) ≡ near = ap (λ (u : ℕ). source_page g u p f at (page_of g k)) part ∙ ap (λ (place : Place). source_page g t p f place (page_of g k)) (sym there.here) in
      let searches : searched k near ≡ Some there.entry = ap (searched k) (sym same) ∙ there.first in
      let its = first-at (λ i. eqb (key_at near i) k) (count_of near) 1 there.entry searches in
      let behind : there.entry ≡ there.entry - 1 + 1 = omega (arith, its.low) in
      let key : key_at near (there.entry - 1 + 1) ≡ k = ap (key_at near) (sym behind) ∙ eqb-true (key_at near there.entry) k its.passed in
      let shows : is_found_in (source_at p there.number) (sought g k p f) ≡ true = ap (is_found_in (source_at p there.number)) (says ∙ ap (found v c) (sym there.here)) ∙ there-found (source_at p there.number) v c in
      record {
        source = there.number;
        source_below = there.below;
        place = there.entry - 1;
        place_below = omega (arith, its.high, its.low);
        answers = answers_by g t p f (source_at p there.number) (page_of g k) (there.entry - 1 + 1) k key part refl shows (searches ∙ ap (λ (i : ℕ). Some i) behind);
        key = key;
        value = ap (value_at near) (sym behind) ∙ ap (λ (xs : List ℕ). value_at xs there.entry) (sym same) ∙ there.value;
      }
