-- What a flush, a drop, a put and a del leave of each part of a partition.
use Prim.Native.Nat.{ℕ, ◌+◌, ◌-◌, ◌*◌, ◌^◌, ◌<◌}
use mathlib.Core.Bool.{true, false}
use mathlib.Core.Path.{◌≡◌, ◌∙◌}
use mathlib.Core.List.{List}
use Rattle.std.specs.Prelude.{None, Some}
use native.Mathlib.Omega.{arith}
use lib.ListN.{length}
use Rattle.model.specs.declared.Geometry.{Geometry}
use Rattle.model.specs.Bytes.{within}
use Rattle.model.specs.Geometry.{allowed, list_at, list_size, buffer_at, stride}
use Rattle.model.specs.Keys.{partition_of, page_of}
use Rattle.model.specs.Page.{stored, without, taken, emptied}
use Rattle.model.specs.DeleteList.{listed_at, struck, enlisted, expired}
use Rattle.model.specs.Filter.{is_set, filter_for}
use Rattle.model.specs.Partition.{Head, head_of, with_head, listed_head, unlisted_head, totalled_head, totalled, flushes_of, listed_of, total_of, live_of, list_of, buffer_of, slot, slot_bits}
use Rattle.model.specs.Batch.{leaving, delisted}
use Rattle.model.specs.Flush.{filtered, head_after, flushed}
use Rattle.model.specs.Drop.{head_dropped, dropped}
use Rattle.model.specs.Put.{due, appends, put_leaving, unlisted, buffered, put_in}
use Rattle.model.specs.Del.{is_listed, removes, stamp_for, unbuffered, listed_with, deleted}
use Rattle.model.proofs.Parts.{length-mid}
use Rattle.model.proofs.Sizes.{sizes, page-of-lt, slot_lt, buffer-fits}
use Rattle.model.proofs.Lengths.{length-stored, length_without, length-struck, length-enlisted, length-expired, length-filter_for}
use Rattle.model.proofs.Heads.{HeadWords, words-listed, words-unlisted, words-totalled, words-after, words-dropped}
use Rattle.model.proofs.KeyedChecks.{appends-due}
use Rattle.model.proofs.Partitions.{modify, Laid, laid, list-fits, laid-head, laid-list, laid-filter, laid-buffer, laid-emptied}

module _ (g : Geometry) (ok : allowed g ≡ true) (p : List ℕ) (long : length p ≡ stride g) where
  pub list-long : length (list_of g p) ≡ 16 * g.list
  list-long = length-mid list_at (list_size g) p (omega (arith, list-fits g ok))

  pub page-long : (q : ℕ) → q < g.pages → length (buffer_of g p q) ≡ g.page
  page-long q l = length-mid (buffer_at g q) g.page p (omega (arith, buffer-fits g q l))

  -- a key stored in its buffer page, or taken out of it
  pub laid-buffered : (k v : ℕ) → Laid g (buffered g k v p) (head_of p) (list_of g p) (slot_bits g p) (modify (page_of g k) (stored k v) (buffer_of g p))
  unfolding buffered
  laid-buffered k v = laid-buffer g ok (laid g p long) (stored k v) (page_of g k) (page-of-lt g ok k) (length-stored k v _ ∙ page-long (page_of g k) (page-of-lt g ok k))

  pub laid-unbuffered : (k : ℕ) → Laid g (unbuffered g k p) (head_of p) (list_of g p) (slot_bits g p) (modify (page_of g k) (without k) (buffer_of g p))
  unfolding unbuffered
  laid-unbuffered k = laid-buffer g ok (laid g p long) (without k) (page_of g k) (page-of-lt g ok k) (length_without k _ ∙ page-long (page_of g k) (page-of-lt g ok k))

  -- the filter of batch F + 1 made new, and the list without what expires
  pub laid-prepared : Laid g (delisted g g.kept (flushes_of p) (listed_of p) (filtered g p)) (head_of p) (expired g.kept (flushes_of p) (listed_of p) (list_of g p))
      (modify (slot g (flushes_of p + 1)) (λ _. is_set (filter_for g (buffer_of g p))) (slot_bits g p)) (buffer_of g p)
  unfolding filtered delisted
  laid-prepared =
      let made = laid-filter g ok (laid g p long) (λ _. filter_for g (buffer_of g p)) (slot g (flushes_of p + 1)) (slot_lt g ok _) (length-filter_for g (buffer_of g p)) in
      laid-list g ok made (expired g.kept (flushes_of p) (listed_of p)) (length-expired g.kept (flushes_of p) (listed_of p) (list_of g p) ∙ list-long)

  -- the head is read as one record, changed and put back
  module _ (words : HeadWords (head_of p)) where
    pub laid-unlisted : (k i : ℕ) → listed_at (listed_of p) k (list_of g p) ≡ Some i
        → Laid g (unlisted g k p) (unlisted_head 1 (head_of p)) (struck i (listed_of p) (list_of g p)) (slot_bits g p) (buffer_of g p)
    unfolding unlisted
    laid-unlisted k i e =
        rw e (laid-head g ok (laid-list g ok (laid g p long) (struck i (listed_of p)) (length-struck i (listed_of p) (list_of g p) ∙ list-long)) _
        (words-unlisted 1 (head_of p) words))

    pub laid-listed : listed_of p < g.list → (k stamp : ℕ)
        → Laid g (listed_with (Some stamp) g k p) (listed_head (head_of p)) (enlisted (listed_of p) k stamp (list_of g p)) (slot_bits g p) (buffer_of g p)
    laid-listed free k stamp =
        laid-head g ok (laid-list g ok (laid g p long) (enlisted (listed_of p) k stamp) (length-enlisted (listed_of p) k stamp (list_of g p) ∙ list-long)) _
        (words-listed (head_of p) words (omega (arith, (sizes g ok).list-max)))

    -- so many entries more and less by the head
    pub laid-totalled : (more less : ℕ) → total_of p + more - less < 2 ^ 32
        → Laid g (totalled more less p) (totalled_head more less (head_of p)) (list_of g p) (slot_bits g p) (buffer_of g p)
    unfolding totalled
    laid-totalled more less l = laid-head g ok (laid g p long) _ (words-totalled more less (head_of p) words l)

    -- batch F + 1 in its slot, the list without what expires, the buffer emptied
    pub laid-flushed : (t : ℕ) → flushes_of p + 1 < 2 ^ 32
        → Laid g (flushed g t p) (head_after g p) (expired g.kept (flushes_of p) (listed_of p) (list_of g p))
        (modify (slot g (flushes_of p + 1)) (λ _. is_set (filter_for g (buffer_of g p))) (slot_bits g p)) (λ q. emptied q t (buffer_of g p q))
    unfolding flushed
    laid-flushed t more = laid-head g ok (laid-emptied g ok t laid-prepared page-long) _ (words-after g p words more (omega (arith, (sizes g ok).kept-max)))

    -- the list without the entries stamped with the oldest live batch; filters and buffer as they were
    pub laid-dropped : (less : ℕ) → Laid g (dropped g less p) (head_dropped g less p) (expired (live_of p) (flushes_of p) (listed_of p) (list_of g p)) (slot_bits g p) (buffer_of g p)
    unfolding dropped delisted
    laid-dropped less =
        laid-head g ok (laid-list g ok (laid g p long) (expired (live_of p) (flushes_of p) (listed_of p)) (length-expired (live_of p) (flushes_of p) (listed_of p) (list_of g p) ∙ list-long)) _
        (words-dropped g less p words)

-- a key that is not listed stays so, a listed one leaves the list with a put, and makes a del do nothing
module _ (g : Geometry) (k : ℕ) (p : List ℕ) where
  pub was-listed : (i n : ℕ) (h : Head) (p' p'' : List ℕ) → listed_at (listed_of p) k (list_of g p) ≡ Some i → n ≡ listed_of p → p' ≡ within list_at (list_size g) (struck i n) p
      → h ≡ unlisted_head 1 (head_of p) → p'' ≡ with_head h p' → p'' ≡ unlisted g k p
  unfolding unlisted
  was-listed i n h p' p'' e en e' eh e'' = rw (e'', eh, e', en, e)

  pub not_listed : listed_at (listed_of p) k (list_of g p) ≡ None → unlisted g k p ≡ p
  unfolding unlisted
  not_listed e = rw e

  pub deleted-listed : is_listed g k p ≡ true → deleted g k p ≡ p
  unfolding deleted
  deleted-listed e = rw e

  -- otherwise the key leaves its buffer page, and is listed with the youngest live batch that passes, wherever it was
  pub deleted-stamped : is_listed g k p ≡ false → deleted g k p ≡ totalled 0 (taken k (buffer_of g p (page_of g k))) (listed_with (stamp_for g k p) g k (unbuffered g k p))
  unfolding deleted removes
  deleted-stamped e = rw e

  -- a put, without a flush and with one
  pub put-kept : (v : ℕ) (f : List ℕ) → due g k p ≡ false → put_in g k v f p ≡ totalled (appends g k p) 0 (unlisted g k (buffered g k v p))
  unfolding put_in put_leaving
  put-kept v f e = rw e

  pub put-flushed : (v : ℕ) (f : List ℕ) → due g k p ≡ true
      → put_in g k v f p ≡ totalled 1 (leaving g (partition_of g k) p f) (unlisted g k (buffered g k v (flushed g (partition_of g k) p)))
  unfolding put_in put_leaving
  put-flushed v f e = rw (e, appends-due g k p e)
