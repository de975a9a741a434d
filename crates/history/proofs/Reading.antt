-- A get on bytes that show a partition answers as the partition does, and reads the same batches; refusal 13 does not come up.
use Prim.Native.Nat.{ℕ, ◌≤◌}
use mathlib.Core.Bool.{Bool, true, false, cond, not}
use mathlib.Core.Path.{◌≡◌, refl, ◌∙◌, ap}
use mathlib.Core.List.{List, [], ◌∷◌}
use Rattle.std.specs.Prelude.{Option, None, Some}
use Rattle.model.specs.declared.Geometry.{Geometry}
use Rattle.model.specs.Search.{is_some}
use Rattle.model.specs.Geometry.{allowed}
use Rattle.model.specs.Keys.{partition_of, page_of}
use Rattle.model.specs.Page.{searched, compared, expected}
use Rattle.model.specs.DeleteList.{listed_at}
use Rattle.model.specs.Partition.{listed_of, list_of, buffer_of, passing}
use Rattle.model.specs.Answers.{Tally, tally, Answer, buffer, batch}
use Rattle.model.specs.Batch.{batch_page}
use Rattle.model.specs.Get.{hit_in, reported, read_through, sought}
use Rattle.model.proofs.Sizes.{page-of-lt}
use Rattle.model.proofs.Tables.{find}
use Rattle.model.proofs.Entries.{held_at}
use Rattle.model.proofs.Lookup.{with_page, read_none, read-batch, sought-listed, sought-unlisted}
use Rattle.history.specs.Reads.{read_of, batches_read, LiveFalling}
use Rattle.history.proofs.Bare.{bare}
use Rattle.history.proofs.Table.{Part, Live, passing as passing_of}
use Rattle.history.proofs.Walk.{look_in, answer_at, walk, walk_read, LiveBatches, passing-live}
use Rattle.history.proofs.Get.{looked_up, batches_for}
use Rattle.history.proofs.Pages.{page-find, page-has, page-expected}
use Rattle.history.proofs.Shows.{ShowsBatchPage, ShowsPart, live-by-head, list-find, list-has}
use Rattle.history.proofs.Passing.{passing-shown}

-- a search of a page answers with what it finds
hit-batch : (page : List ℕ) (n : ℕ) (c : Tally) (o : Option ℕ) (later : Answer) → bare (hit_in page c (batch n) o later) ≡ answer_at (held_at 8 page o) n (bare later)
hit-batch page n c None later = refl
hit-batch page n c (Some i) later = refl

module _ (g : Geometry) (ok : allowed g ≡ true) (k : ℕ) (p f : List ℕ) (s : Part) (shows : ShowsPart g (partition_of g k) p f s)
    (within : s.live ≤ s.flushes) where
  -- a live batch's page
  module _ (n : ℕ) (live : Live s n) where
    shown : ShowsBatchPage g (partition_of g k) n (page_of g k) (batch_page g (partition_of g k) f n (page_of g k)) (s.batch n (page_of g k))
    shown = shows.batch n live (page_of g k) (page-of-lt g ok k)

    is-expected : expected g (partition_of g k) n (page_of g k) (batch_page g (partition_of g k) f n (page_of g k)) ≡ true
    is-expected = page-expected shown.page n shown.flush

  read_through_lem : (high : ℕ) (ns : List ℕ) (c : Tally) → LiveBatches s high ns → bare (read_through g k f ns c) ≡ walk (look_in g k s) ns
  unfolding walk
  read_through_lem high [] c falls = ap bare (read_none g k f c)
  read_through_lem high (n ∷ ns) c falls =
      let page : List ℕ = batch_page g (partition_of g k) f n (page_of g k) in
      rw (read-batch g k f n ns c, is-expected n falls.0, page-find (shown n falls.0).page k, ← (read_through_lem n ns (with_page g k f n c) falls.2))
      (hit-batch page n (reported g (with_page g k f n c)) (searched k page) (read_through g k f ns (with_page g k f n c)))

  read-of : (high : ℕ) (ns : List ℕ) → LiveBatches s high ns → read_of g k f ns ≡ walk_read (look_in g k s) ns
  unfolding read_of walk_read
  read-of high [] falls = refl
  read-of high (n ∷ ns) falls =
      rw (is-expected n falls.0, page-has (shown n falls.0).page k, read-of n ns falls.2)
      (ap (λ (l : List ℕ). n ∷ l) (swap (is_some (look_in g k s n)) _))
    where
      swap : (b : Bool) (l : List ℕ) → cond (not b) l [] ≡ cond b [] l
      swap true l = refl
      swap false l = refl

  buffered : List ℕ
  buffered = buffer_of g p (page_of g k)

  in_buffer : find k (s.buffer (page_of g k)) ≡ held_at 8 buffered (searched k buffered)
  unfolding buffered
  in_buffer = page-find (shows.buffer (page_of g k) (page-of-lt g ok k)) k

  -- by where the list and the buffer page have the key
  hit-buffer : (c : Tally) (o : Option ℕ) → bare (hit_in buffered c buffer o (read_through g k f (passing g k p) c)) ≡ looked_up g k s None (held_at 8 buffered o)
  hit-buffer c None = rw (passing-shown g ok (partition_of g k) p f s shows k within) (read_through_lem _ (passing_of g k s) c (passing-live g k s within))
  hit-buffer c (Some i) = refl

  sought-in : (o : Option ℕ) → listed_at (listed_of p) k (list_of g p) ≡ o → bare (sought g k p f) ≡ looked_up g k s (held_at 4 (list_of g p) o) (held_at 8 buffered (searched k buffered))
  unfolding buffered
  sought-in None e = ap bare (sought-unlisted g k f p e) ∙ hit-buffer (tally 0 (compared k buffered)) (searched k buffered)
  sought-in (Some i) e = ap bare (sought-listed g k f p i e)

  pub sought-shown : bare (sought g k p f) ≡ looked_up g k s (find k s.list) (find k (s.buffer (page_of g k)))
  sought-shown = rw (list-find shows k, in_buffer) (sought-in (listed_at (listed_of p) k (list_of g p)) refl)

  read-in : (m b : Option ℕ) → cond (is_some m) [] (cond (is_some b) [] (read_of g k f (passing g k p))) ≡ batches_for g k s m b
  read-in (Some i) b = refl
  read-in None (Some v) = refl
  read-in None None = rw (passing-shown g ok (partition_of g k) p f s shows k within) (read-of _ (passing_of g k s) (passing-live g k s within))

  pub read-shown : batches_read g k p f ≡ batches_for g k s (find k s.list) (find k (s.buffer (page_of g k)))
  unfolding batches_read
  read-shown = rw (list-has shows k, page-has (shows.buffer (page_of g k) (page-of-lt g ok k)) k) (read-in (find k s.list) (find k (s.buffer (page_of g k))))

  -- live batches by the definition, too
  pub live-falling : (high : ℕ) (ns : List ℕ) → LiveBatches s high ns → LiveFalling p high ns
  live-falling high [] falls = tt
  live-falling high (n ∷ ns) falls = (falls.1, live-by-head shows n falls.0, live-falling n ns falls.2)
