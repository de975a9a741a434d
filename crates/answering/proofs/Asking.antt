-- A get that finds none in the younger batches goes on with batch n, which answers it exactly if its filter passes; batches other than n do not answer in its place.
use Prim.Native.Nat.{ℕ, zero, suc, ◌+◌, ◌-◌, ◌≤◌, ◌<◌}
use mathlib.Core.Bool.{Bool, true, false, cond, ◌&&◌, false≢true}
use mathlib.Core.List.{List}
use Rattle.std.specs.Prelude.{Option, None, Some}
use Rattle.std.specs.Option as option
use mathlib.Core.Path.{◌≡◌, refl, sym, ◌∙◌, ap}
use native.Mathlib.Nat.{zero-add, sub-zero}
use native.Mathlib.Omega.{arith}
use lib.Dec.{eqb}
use borrow.Author.Tests.{eq-eqb, ne_eqb}
use Rattle.model.specs.declared.Geometry.{Geometry}
use Rattle.model.specs.Search.{is_some}
use Rattle.model.specs.Keys.{partition_of, page_of}
use Rattle.model.specs.Records.{key_at}
use Rattle.model.specs.Page.{searched, compared, expected}
use Rattle.model.specs.Partition.{head_of, flushes_of, buffer_of, live_of, is_live, batch_passes, passing_from}
use Rattle.model.specs.Batch.{batch_page}
use Rattle.model.specs.Answers.{Place, Tally, tally, Answer, refused, buffer, batch}
use Rattle.model.specs.Get.{hit_in, reported, read_through}
use Rattle.model.specs.PartitionText.{source_page, is_found_in, is_at, answers_in, answers_with}
use Rattle.model.proofs.Heads.{live-bounds}
use Rattle.model.proofs.Lookup.{with_page, read_none, read-batch}
use Rattle.model.proofs.Passing.{pass-take, pass-skip, pass-end}
use Rattle.model.proofs.Sizes.{page-of-lt}
use Rattle.model.proofs.Tests.{either}
use Rattle.answering.specs.Younger.{read_among, sought_among, is_absent}
use Rattle.sources.specs.Readable.{Readable}
use Rattle.sources.proofs.Sources.{batch-expected}

-- ---- the code's test of what a search finds
pub is-some : {A : Type 0} (o : Option A) → option.is_some o ≡ true → (x : A) × (o ≡ Some x)
is-some None e = absurd (false≢true e)
is-some (Some x) e = (x, refl)

pub is-none : {A : Type 0} (o : Option A) → option.is_some o ≡ false → o ≡ None
is-none None e = refl
is-none (Some x) e = absurd (false≢true (sym e))

module _ (g : Geometry) (k : ℕ) (p f : List ℕ) where
  abbrev walk : ℕ → ℕ → Tally → Answer
  walk count n c = read_through g k f (passing_from g k p count n) c

  abbrev page : ℕ → List ℕ
  page n = batch_page g (partition_of g k) f n (page_of g k)

  abbrev is_whole : ℕ → Bool
  is_whole n = expected g (partition_of g k) n (page_of g k) (page n)

  -- ---- it does not answer from a batch that it does not come to
  not-on-page : (n : ℕ) (b : Bool) (o : Option ℕ) (page : List ℕ) (c : Tally) (reads m : ℕ) (rest : Answer) → eqb n m ≡ false → is_found_in (batch n) rest ≡ false → is_found_in (batch n) (cond b (hit_in page c (batch m) o rest) (refused 13 reads)) ≡ false
  not-on-page n false o page c reads m rest other e = refl
  not-on-page n true (Some i) page c reads m rest other e = other
  not-on-page n true None page c reads m rest other e = e

  elsewhere : (n count m : ℕ) (c : Tally) → ((i : ℕ) → i < count → n ≡ m - i → ⊥) → is_found_in (batch n) (walk count m c) ≡ false
  elsewhere n zero m c out = rw (pass-end g k p 0 m (omega arith), read_none g k f c)
  elsewhere n (suc count) m c out =
      let d : suc count - 1 ≡ count = omega arith in
      let other : n ≡ m → ⊥ = λ e. out 0 (omega arith) (omega arith) in
      let older : (i : ℕ) → i < count → n ≡ m - 1 - i → ⊥ = λ i l e. out (i + 1) (omega arith) (omega arith) in
      either (batch_passes g k p m)
      (λ h. rw (pass-take g k p (suc count) m (omega arith) h, d, read-batch g k f m (passing_from g k p count (m - 1)) c) (not-on-page n (is_whole m) (searched k (page m)) (page m) _ _ m (walk count (m - 1) (with_page g k f m c)) (ne_eqb n m other) (elsewhere n count (m - 1) (with_page g k f m c) older)))
      (λ h. rw (pass-skip g k p (suc count) m (omega arith) h, d) (elsewhere n count (m - 1) c older))

  -- ---- where batch n stands behind so many younger ones, it answers as by itself, if these do not: b is whether it does, whatever the cost
  module _ (n : ℕ) (b : Bool) where
    behind-page : (whole : Bool) (o : Option ℕ) (page : List ℕ) (c : Tally) (reads m : ℕ) (rest first : Answer) → eqb n m ≡ false → is_found_in (batch n) rest ≡ is_absent first && b
        → is_found_in (batch n) (cond whole (hit_in page c (batch m) o rest) (refused 13 reads)) ≡ is_absent (cond whole (hit_in page c (batch m) o first) (refused 13 reads)) && b
    behind-page false o page c reads m rest first other e = refl
    behind-page true (Some i) page c reads m rest first other e = other
    behind-page true None page c reads m rest first other e = e

    behind-younger : (count more m : ℕ) (c : Tally) → ((i : ℕ) → i < count → n ≡ m - i → ⊥) → ((c : Tally) → is_found_in (batch n) (walk more (m - count) c) ≡ b) → is_found_in (batch n) (walk (count + more) m c) ≡ is_absent (walk count m c) && b
    behind-younger zero more m c out own = rw (zero-add, pass-end g k p 0 m (omega arith), read_none g k f c) (rw sub-zero at (own c))
    behind-younger (suc count) more m c out own =
        let other : n ≡ m → ⊥ = λ x. out 0 (omega arith) (omega arith) in
        let older : (i : ℕ) → i < count → n ≡ m - 1 - i → ⊥ = λ i l x. out (i + 1) (omega arith) (omega arith) in
        let s : m - suc count ≡ m - 1 - count = omega arith in
        let later : (c : Tally) → is_found_in (batch n) (walk (count + more) (m - 1) c) ≡ is_absent (walk count (m - 1) c) && b = λ c. behind-younger count more (m - 1) c older (λ c. rw (← s) (own c)) in
        let e : suc count + more - 1 ≡ count + more = omega arith in
        let d : suc count - 1 ≡ count = omega arith in
        either (batch_passes g k p m)
        (λ h. rw (pass-take g k p (suc count + more) m (omega arith) h, pass-take g k p (suc count) m (omega arith) h, e, d, read-batch g k f m (passing_from g k p (count + more) (m - 1)) c, read-batch g k f m (passing_from g k p count (m - 1)) c)
        (behind-page (is_whole m) (searched k (page m)) (page m) _ _ m (walk (count + more) (m - 1) (with_page g k f m c)) (walk count (m - 1) (with_page g k f m c)) (ne_eqb n m other) (later (with_page g k f m c))))
        (λ h. rw (pass-skip g k p (suc count + more) m (omega arith) h, pass-skip g k p (suc count) m (omega arith) h, e, d) (later c))

-- ---- whether batch n answers, b being whether its filter passes, by the answer of all that is younger
behind-buffer : (n : ℕ) (b : Bool) (o : Option ℕ) (page : List ℕ) (c : Tally) (rest first : Answer) → is_found_in (batch n) rest ≡ is_absent first && b → is_found_in (batch n) (hit_in page c buffer o rest) ≡ is_absent (hit_in page c buffer o first) && b
behind-buffer n b (Some i) page c rest first e = refl
behind-buffer n b None page c rest first e = e

-- ---- the key's own page of the buffer holds it
in_buffer : (o : Option ℕ) (page : List ℕ) (c : Tally) (rest : Answer) → is_some o ≡ true → is_found_in buffer (hit_in page c buffer o rest) ≡ true
in_buffer None page c rest e = absurd (false≢true e)
in_buffer (Some i) page c rest e = refl

pub from-buffer : (g : Geometry) (count k : ℕ) (p f : List ℕ) → is_some (searched k (buffer_of g p (page_of g k))) ≡ true → is_found_in buffer (sought_among g count k p f) ≡ true
from-buffer g count k p f e = in_buffer (searched k (buffer_of g p (page_of g k))) (buffer_of g p (page_of g k)) (tally 0 (compared k (buffer_of g p (page_of g k)))) (read_among g count k p f) e

-- ---- batch n is live and holds the key
found_here : (n : ℕ) (o : Option ℕ) (page : List ℕ) (c : Tally) (rest : Answer) → is_some o ≡ true → is_found_in (batch n) (hit_in page c (batch n) o rest) ≡ true
found_here n None page c rest e = absurd (false≢true e)
found_here n (Some i) page c rest e = eq-eqb n n refl

module _ (g : Geometry) (t : ℕ) (p f : List ℕ) (r : Readable g t p f) (n : ℕ) (alive : is_live (head_of p) n ≡ true) (k : ℕ) (own : partition_of g k ≡ t) (holds : is_some (searched k (batch_page g t f n (page_of g k))) ≡ true) where
  from-own : (more : ℕ) (c : Tally) → 0 < more → is_found_in (batch n) (walk g k p f more n c) ≡ batch_passes g k p n
  from-own more c l =
      let first = (live-bounds (head_of p) n alive).0 in
      either (batch_passes g k p n)
      (λ h. rw (pass-take g k p more n l h, read-batch g k f n (passing_from g k p (more - 1) (n - 1)) c, own, batch-expected g t p f r n (page_of g k) alive (page-of-lt g r.whole.fine k), h) (found_here n (searched k (batch_page g t f n (page_of g k))) (batch_page g t f n (page_of g k)) _ _ holds))
      (λ h. rw (pass-skip g k p more n l h, h) (elsewhere g k p f n (more - 1) (n - 1) c (λ i j e. omega (arith, first, e))))

  pub asked : is_found_in (batch n) (sought_among g (live_of p) k p f) ≡ is_absent (sought_among g (flushes_of p - n) k p f) && batch_passes g k p n
  asked =
      let b = live-bounds (head_of p) n alive in
      let e : live_of p ≡ flushes_of p - n + (live_of p - (flushes_of p - n)) = omega (arith, b) in
      let m : flushes_of p - (flushes_of p - n) ≡ n = omega (arith, b) in
      let more : 0 < live_of p - (flushes_of p - n) = omega (arith, b) in
      let page = buffer_of g p (page_of g k) in
      let cost : Tally = tally 0 (compared k page) in
      behind-buffer n (batch_passes g k p n) (searched k page) page cost (walk g k p f (live_of p) (flushes_of p) cost) (walk g k p f (flushes_of p - n) (flushes_of p) cost)
      (ap (λ (x : ℕ). is_found_in (batch n) (walk g k p f x (flushes_of p) cost)) e
      ∙ behind-younger g k p f n (batch_passes g k p n) (flushes_of p - n) (live_of p - (flushes_of p - n)) (flushes_of p) cost (λ i j h. omega (arith, b, h))
      (λ c. rw m (from-own (live_of p - (flushes_of p - n)) c more)))

-- ---- the younger batches one by one, from the youngest on: what those down to `next` answer after some cost
pub record Asking (g : Geometry) (k : ℕ) (p f : List ℕ) (n next : ℕ) : Type 0 where
  pub cost : Tally
  pub same : is_absent (read_among g (flushes_of p - n) k p f) ≡ is_absent (walk g k p f (next - n) next cost)

pub asking-all : (g : Geometry) (k : ℕ) (p f : List ℕ) (n next : ℕ) → next ≡ flushes_of p → Asking g k p f n next
asking-all g k p f n next e = record { cost = tally 0 (compared k (buffer_of g p (page_of g k))); same = rw e }

module _ {g : Geometry} {k : ℕ} {p f : List ℕ} {n next : ℕ} (asking : Asking g k p f n next) where
  -- none is left
  pub asking-none : next ≤ n → is_absent (read_among g (flushes_of p - n) k p f) ≡ true
  asking-none l = asking.same ∙ rw (pass-end g k p (next - n) next (omega arith), read_none g k f asking.cost)

  module _ (l : n < next) where
    abbrev one_less : next - n - 1 ≡ next - 1 - n
    one_less = omega arith

    -- the next one: whether its filter passes, and what its page holds
    module _ (t : ℕ) (own : partition_of g k ≡ t) (whole : expected g t next (page_of g k) (batch_page g t f next (page_of g k)) ≡ true) where
      read_next : (b : Bool) (o : Option ℕ) → batch_passes g k p next ≡ b → searched k (batch_page g t f next (page_of g k)) ≡ o
          → is_absent (read_among g (flushes_of p - n) k p f) ≡ is_absent (cond b (hit_in (batch_page g t f next (page_of g k)) (reported g (with_page g k f next asking.cost)) (batch next) o (walk g k p f (next - 1 - n) (next - 1) (with_page g k f next asking.cost))) (walk g k p f (next - 1 - n) (next - 1) asking.cost))
      read_next false o h e = asking.same ∙ rw (pass-skip g k p (next - n) next (omega arith) h, one_less)
      read_next true o h e = asking.same ∙ rw (pass-take g k p (next - n) next (omega arith) h, one_less, read-batch g k f next (passing_from g k p (next - 1 - n) (next - 1)) asking.cost, own, whole, e)

      pub asking-held : batch_passes g k p next && is_some (searched k (batch_page g t f next (page_of g k))) ≡ true → is_absent (read_among g (flushes_of p - n) k p f) ≡ false
      asking-held held = go (batch_passes g k p next) (searched k (batch_page g t f next (page_of g k))) refl refl held
        where
          go : (b : Bool) (o : Option ℕ) → batch_passes g k p next ≡ b → searched k (batch_page g t f next (page_of g k)) ≡ o → b && is_some o ≡ true → is_absent (read_among g (flushes_of p - n) k p f) ≡ false
          go false o h e x = absurd (false≢true x)
          go true None h e x = absurd (false≢true x)
          go true (Some i) h e x = read_next true (Some i) h e

      pub asking-next : batch_passes g k p next && is_some (searched k (batch_page g t f next (page_of g k))) ≡ false → Asking g k p f n (next - 1)
      asking-next lacks = go (batch_passes g k p next) (searched k (batch_page g t f next (page_of g k))) refl refl lacks
        where
          go : (b : Bool) (o : Option ℕ) → batch_passes g k p next ≡ b → searched k (batch_page g t f next (page_of g k)) ≡ o → b && is_some o ≡ false → Asking g k p f n (next - 1)
          go false o h e x = record { cost = asking.cost; same = read_next false o h e }
          go true None h e x = record { cost = with_page g k f next asking.cost; same = read_next true None h e }
          go true (Some i) h e x = absurd (false≢true (sym x))

-- ---- an entry with the key, by the first entry of its page with it
pub answers_by : (g : Geometry) (t : ℕ) (p f : List ℕ) (at : Place) (q i key : ℕ) (page : List ℕ) → page ≡ source_page g t p f at q → key ≡ key_at page i → answers_with g t p f at q i ≡ answers_in g t p f at q key && is_at i (searched key page)
unfolding answers_with
answers_by g t p f at q i key page ep ek = rw (ek, ep)
