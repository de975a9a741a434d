-- A get's answer follows from the batches that it reads, or from the buffer page, on areas of any content.
use Prim.Native.Nat.{ℕ, zero, suc, ◌+◌, ◌-◌}
use mathlib.Core.Bool.{Bool, true, false, cond, not, ◌&&◌}
use mathlib.Core.Path.{◌≡◌, refl}
use mathlib.Core.List.{List, [], ◌∷◌, ◌++◌, append_assoc, append-nil}
use Rattle.std.specs.Prelude.{Option, None, Some}
use Rattle.model.specs.declared.Geometry.{Geometry}
use Rattle.model.specs.Search.{is_some}
use Rattle.model.specs.Keys.{partition_of, page_of}
use Rattle.model.specs.Page.{searched, compared, expected}
use Rattle.model.specs.DeleteList.{listed_at}
use Rattle.model.specs.Partition.{flushes_of, listed_of, list_of, live_of, buffer_of, passing_from, passing}
use Rattle.model.specs.Answers.{Areas, Tally, tally, Refusal, Answer, refused, buffer, batch}
use Rattle.model.specs.Batch.{batch_page}
use Rattle.model.specs.Get.{hit_in, reads_for, reported, read_through, sought}
use Rattle.model.specs.Calls.{get, geometry_in, key_partition, checks, reply}
use Rattle.model.proofs.Tests.{either}
use Rattle.model.proofs.Lookup.{with_page, read_none, read-batch, sought-listed, sought-unlisted}
use Rattle.model.proofs.Calls.{result-get, reply-refused, reply-accepted}
use Rattle.history.specs.Reads.{read_of, batches_read, read_by, is_passed, held_in, AllLack, Follows}

module _ (a : Areas) (k : ℕ) where
  abbrev g : Geometry
  g = geometry_in a

  abbrev p : List ℕ
  p = key_partition a k

  abbrev page : ℕ → List ℕ
  page n = batch_page g (partition_of g k) a.flash n (page_of g k)

  lack-one-more : (ns : List ℕ) (n : ℕ) → AllLack a k ns → is_passed a k n ≡ true → held_in a k n ≡ None → AllLack a k (ns ++ n ∷ [])
  lack-one-more [] n lacking passed lacks = (passed, lacks, tt)
  lack-one-more (m ∷ ms) n lacking passed lacks = (lacking.0, lacking.1, lack-one-more ms n lacking.2 passed lacks)

  -- Batch n's page is read behind batches that all lack the key. They are carried along, so that nothing is ever put in front of a later answer's batches.
  module _ (n : ℕ) (before : List ℕ) (lacking : AllLack a k before) (passed : is_passed a k n ≡ true) (c : Tally) (reads : ℕ) (later : Answer) (rest : List ℕ) where
    page-read : (AllLack a k (before ++ n ∷ []) → Follows a k later ((before ++ n ∷ []) ++ rest)) → (b : Bool) (o : Option ℕ) → searched k (page n) ≡ o
        → Follows a k (cond b (hit_in (page n) c (batch n) o later) (refused 13 reads)) (before ++ n ∷ cond (b && not (is_some o)) rest [])
    page-read goes_on false o e = tt
    page-read goes_on true (Some i) e = record { before = before; last = refl; lacking = lacking; passed = passed; holds = rw e }
    page-read goes_on true None e = rw (← append_assoc before (n ∷ []) rest) (goes_on (lack-one-more before n lacking passed (rw e)))

  walked : (count n : ℕ) (c : Tally) (before : List ℕ) → AllLack a k before
      → Follows a k (read_through g k a.flash (passing_from g k p count n) c) (before ++ read_of g k a.flash (passing_from g k p count n))
  unfolding read_of passing_from
  walked zero n c before lacking = rw (read_none, append-nil) lacking
  walked (suc count) n c before lacking = either (is_passed a k n)
      (λ passed. simp (passed, read-batch) (page-read n before lacking passed (reported g (with_page g k a.flash n c)) (reads_for g (c.reads + 1)) _ _ (walked count (n - 1) (with_page g k a.flash n c) (before ++ n ∷ []))
      (expected g (partition_of g k) n (page_of g k) (page n)) (searched k (page n)) refl))
      (λ skipped. simp skipped (walked count (n - 1) c before lacking))

  in_buffer : (c : Tally) (o : Option ℕ) → searched k (buffer_of g p (page_of g k)) ≡ o → Follows a k (hit_in (buffer_of g p (page_of g k)) c buffer o (read_through g k a.flash (passing g k p) c))
      (cond (is_some o) [] (read_of g k a.flash (passing g k p)))
  unfolding passing
  in_buffer c (Some i) e = (refl, rw e)
  in_buffer c None e = walked (live_of p) (flushes_of p) c [] tt

  in_list : (o : Option ℕ) → listed_at (listed_of p) k (list_of g p) ≡ o → Follows a k (sought g k p a.flash) (read_by a k)
  unfolding batches_read
  in_list (Some i) e = rw (sought-listed g k a.flash p i e, e) tt
  in_list None e = rw (sought-unlisted g k a.flash p e, e) (in_buffer (tally 0 (compared k (buffer_of g p (page_of g k)))) (searched k (buffer_of g p (page_of g k))) refl)

  pub follows : Follows a k (reply a (get k)) (read_by a k)
  follows = go (checks a (get k)) refl
    where
      go : (o : Option Refusal) → checks a (get k) ≡ o → Follows a k (reply a (get k)) (read_by a k)
      go (Some r) e = rw (reply-refused a (get k) r e) tt
      go None e = rw (reply-accepted a (get k) e, result-get a g refl k) (in_list (listed_at (listed_of p) k (list_of g p)) refl)
