-- Bytes that show a partition: what they say of its entries, and that a change of the head's total shows the same partition.
use Prim.Native.Nat.{ℕ, suc, ◌+◌, ◌-◌, ◌^◌, ◌≤◌, ◌<◌}
use mathlib.Core.Bool.{Bool, true, false, not}
use mathlib.Core.Path.{◌≡◌, refl, sym, ◌∙◌, ap, ap₂}
use mathlib.Core.List.{List, [], ◌∷◌}
use Rattle.std.specs.Prelude.{None}
use native.Mathlib.Omega.{arith}
use native.Mathlib.Nat.{zero-add}
use lib.Dec.{eqb, leb}
use lib.ListN.{length}
use borrow.Author.Tests.{ne_eqb}
use Rattle.model.specs.declared.Geometry.{Geometry}
use Rattle.model.specs.Search.{is_some, first_from}
use Rattle.model.specs.Geometry.{allowed}
use Rattle.model.specs.Keys.{page_of}
use Rattle.model.specs.Page.{added, taken}
use Rattle.model.specs.Partition.{Head, head_of, totalled, flushes_of, total_of, live_of, oldest}
use Rattle.model.specs.Batch.{sum, batch_entries, failed_page, pushes_out, failed_head, leaving}
use Rattle.model.specs.PartitionText.{live_batch, some_batch_fails}
use Rattle.model.specs.Flush.{in_use}
use Rattle.model.specs.Put.{due, appends}
use Rattle.model.specs.Del.{removes}
use Rattle.model.proofs.Sizes.{sizes, page-of-lt}
use Rattle.model.proofs.Tests.{numbers, either}
use Rattle.model.proofs.Sums.{sum_same}
use Rattle.model.proofs.Searching.{first-behind, first-end, first-ext}
use Rattle.model.proofs.Tables.{Entry}
use Rattle.model.proofs.Heads.{words-totalled}
use Rattle.model.proofs.PartitionsCalls.{laid-totalled}
use Rattle.history.specs.Claim.{entries_held}
use Rattle.history.proofs.Table.{Part, Live, is_empty, in_use as in_use_in, due as due_in}
use Rattle.history.proofs.Core.{pages_at, PartOk}
use Rattle.history.proofs.Totals.{entries_at, entries_all, oldest_in, leaving_in, added_in, removed_in, all-parts, batch-of-age}
use Rattle.history.proofs.Pages.{page-has, page-count, page-expected}
use Rattle.history.proofs.Shows.{ShowsPart, shows-laid, list-has}

-- no number passes the test
first-fails : (n : ℕ) (test : ℕ → Bool) → ((q : ℕ) → q < n → test q ≡ false) → first_from n 0 test ≡ None
first-fails n test h = first-behind test n 0 n (λ j l. rw zero-add (h j l)) (omega arith) ∙ rw zero-add (first-end test n n (omega arith))

module _ (g : Geometry) (ok : allowed g ≡ true) (t : ℕ) (p f : List ℕ) (s : Part) (shows : ShowsPart g t p f s) where
  -- when a put of the key flushes; the entry that it adds, and the one that a del of it takes out of the buffer
  module _ (k : ℕ) where
    pub due-shown : due g k p ≡ due_in g k s
    unfolding due due_in
    due-shown = let page = shows.buffer (page_of g k) (page-of-lt g ok k) in rw (page-has page k, page-count page)

    pub appends-shown : appends g k p ≡ added_in g k s
    unfolding appends added added_in
    appends-shown = rw (page-has (shows.buffer (page_of g k) (page-of-lt g ok k)) k)

    pub removes-shown : removes g k p ≡ removed_in g k s
    unfolding removes taken removed_in
    removes-shown = rw (list-has shows k, page-has (shows.buffer (page_of g k) (page-of-lt g ok k)) k)

  pub use-shown : in_use g p ≡ in_use_in g s
  unfolding in_use_in
  use-shown = ap is_some (first-ext _ _ g.pages 0 (λ q low l. rw (page-count (shows.buffer q (omega arith))) (some-entry (s.buffer q))))
    where
      some-entry : (l : List Entry) → not (eqb (length l) 0) ≡ not (is_empty l)
      some-entry [] = refl
      some-entry (e ∷ l) = ap not (ne_eqb (suc (length l)) 0 (omega arith))

  module _ (part : PartOk g s) where
    -- a live batch's pages count its entries
    batch-count : (n : ℕ) → Live s n → batch_entries g t f n ≡ sum g.pages (λ q. length (s.batch n q))
    batch-count n live = sum_same g.pages _ _ (λ q l. page-count (shows.batch n live q l).page)

    -- all page counts together
    pub held-shown : entries_held g t p f ≡ entries_all g s
    unfolding entries_held
    held-shown = ap₂ ◌+◌ (sum_same g.pages _ _ (λ q l. page-count (shows.buffer q l))) batches ∙ sym (all-parts g s)
      where
        batches : sum (live_of p) (λ i. batch_entries g t f (flushes_of p - i)) ≡ sum s.live (λ i. entries_at g s (suc i))
        batches =
            rw (shows.live, shows.flushes)
            (sum_same s.live _ _ (λ i l. batch-count (s.flushes - i)
            (record { first = omega (arith, part.live_flushed); flushed = omega arith; near = omega (arith, part.live_flushed) })))

    -- no more batches are live than were written
    pub live-flushed : live_of p ≤ flushes_of p
    live-flushed = rw (shows.live, shows.flushes) part.live_flushed

    -- the batch of a source
    pub source-live : (i : ℕ) → i < live_of p → Live s (live_batch (head_of p) i)
    source-live i l = rw (shows.live, shows.flushes) (record {
      first = omega arith;
      flushed = omega (arith, part.live_flushed, shows.live);
      near = omega (arith, part.live_flushed, shows.live);
    })

    -- the oldest live batch: its pages are as refusal 13 expects them, and count its entries
    module _ (any : 1 ≤ s.live) where
      oldest-live : Live s (oldest (head_of p))
      oldest-live = rw (shows.live, shows.flushes) (record { first = omega arith; flushed = omega (arith, part.live_flushed); near = omega (arith, part.live_flushed) })

      pub oldest-shown : batch_entries g t f (oldest (head_of p)) ≡ oldest_in g s
      oldest-shown = batch-count _ oldest-live ∙ rw (shows.live, shows.flushes) (sum_same g.pages _ _ (λ q l. ap length (sym (by-age q))))
        where
          by-age : (q : ℕ) → pages_at s s.live q ≡ s.batch (s.flushes - s.live + 1) q
          by-age q = let e : s.flushes + 1 - s.live ≡ s.flushes - s.live + 1 = omega (arith, part.live_flushed) in batch-of-age g s s.live q any ∙ ap (λ (n : ℕ). s.batch n q) e

      pub oldest-sound : failed_page g t f (oldest (head_of p)) ≡ None
      oldest-sound = first-fails g.pages _ (λ q l. let page = shows.batch _ oldest-live q l in rw (page-expected page.page _ page.flush))

    -- the batch that a flush pushes out
    pushes-shown : pushes_out g (head_of p) ≡ leb g.kept s.live
    unfolding pushes_out
    pushes-shown = rw shows.live

    some-live : leb g.kept s.live ≡ true → 1 ≤ s.live
    some-live full = omega (numbers, (sizes g ok).kept-min)

    pub leaving-shown : leaving g t p f ≡ leaving_in g s
    unfolding leaving leaving_in
    leaving-shown = rw pushes-shown (either (leb g.kept s.live) (λ full. rw full (oldest-shown (some-live full))) (λ few. rw few))

    -- every page of every live batch is as refusal 13 expects it
    pub batches-shown : some_batch_fails g t p f ≡ false
    unfolding some_batch_fails
    batches-shown = ap is_some (first-fails (live_of p) _ (λ i l. ap is_some (first-fails g.pages _ (λ q lq.
        let page = shows.batch _ (source-live i l) q lq in rw (page-expected page.page _ page.flush)))))

    pub heads-shown : failed_head g t p f ≡ None
    unfolding failed_head
    heads-shown = rw pushes-shown (either (leb g.kept s.live) (λ full. rw full (oldest-sound (some-live full))) (λ few. rw few))

  -- another total
  module _ (more less : ℕ) (small : total_of p + more - less < 2 ^ 32) where
    pub shows-totalled : ShowsPart g t (totalled more less p) f s
    shows-totalled = shows-laid ok (laid-totalled g ok p shows.long shows.words more less small)
        (words-totalled more less (head_of p) shows.words small) shows.flushes shows.live shows.list
        shows.buffer shows.batch shows.filter

    pub total-totalled : total_of (totalled more less p) ≡ total_of p + more - less
    total-totalled = ap (λ (h : Head). h.total) (laid-totalled g ok p shows.long shows.words more less small).head
