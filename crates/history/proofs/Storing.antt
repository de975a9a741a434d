-- A put without its flush, and a del, on bytes that show a partition show the changed partition, whatever the total.
use Prim.Native.Nat.{ℕ, suc, ◌^◌, ◌≤◌, ◌<◌}
use mathlib.Core.Bool.{true, false}
use mathlib.Core.Path.{◌≡◌, refl, ◌∙◌, ap}
use mathlib.Core.List.{List, [], ◌∷◌, ◌++◌}
use Rattle.std.specs.Prelude.{Option, None, Some}
use native.Mathlib.Omega.{arith}
use native.Mathlib.Decide.{ℕ_discrete}
use lib.ListN.{length}
use Rattle.model.specs.declared.Geometry.{Geometry}
use Rattle.model.specs.Search.{is_some}
use Rattle.model.specs.Geometry.{allowed, capacity}
use Rattle.model.specs.Keys.{page_of}
use Rattle.model.specs.Page.{stored, without}
use Rattle.model.specs.DeleteList.{listed_at, struck, enlisted}
use Rattle.model.specs.Partition.{Head, head_of, listed_head, unlisted_head, listed_of, list_of, live_of, buffer_of, slot_bits}
use Rattle.model.specs.Put.{unlisted, buffered}
use Rattle.model.specs.Del.{youngest, stamp_for, unbuffered, listed_with}
use Rattle.model.proofs.Sizes.{sizes, page-of-lt}
use Rattle.model.proofs.Tables.{Entry, find, store, erase, erase-none}
use Rattle.model.proofs.Entries.{held_at}
use Rattle.model.proofs.ListEntries.{list_entries, entries-struck, entries-enlisted}
use Rattle.model.proofs.Heads.{HeadWords, words-listed, words-unlisted}
use Rattle.model.proofs.Partitions.{modify, modify-at, modify-off, Laid}
use Rattle.model.proofs.PartitionsCalls.{list-long, laid-buffered, laid-unbuffered, laid-unlisted, laid-listed, not_listed}
use Rattle.history.proofs.Table.{Part, remade, is_empty, must_list, enlist, stored as stored_part, deleted as deleted_part, passing as passing_of}
use Rattle.history.proofs.Core.{PartOk}
use Rattle.history.proofs.Walk.{LiveBatches, passing-live}
use Rattle.history.proofs.Pages.{ShowsPage, shows-stored, shows-without}
use Rattle.history.proofs.Shows.{ShowsPart, shows-laid, list_count, list-find}
use Rattle.history.proofs.Passing.{passing-shown}

module _ (g : Geometry) (ok : allowed g ≡ true) (t : ℕ) (p f : List ℕ) (s : Part) (shows : ShowsPart g t p f s) where
  -- one page of the buffer changed
  shows-page : (p' : List ℕ) (q : ℕ) (c : List ℕ → List ℕ) (c' : List Entry → List Entry)
      → Laid g p' (head_of p) (list_of g p) (slot_bits g p) (modify q c (buffer_of g p))
      → ShowsPage g t q (c (buffer_of g p q)) (c' (s.buffer q))
      → ShowsPart g t p' f (remade s s.list (modify q c' s.buffer))
  shows-page p' q c c' at page = shows-laid ok at shows.words shows.flushes shows.live shows.list
      (λ r m. elim (ℕ_discrete r q) [
        | yes e ↦ rw (modify-at q c (buffer_of g p) r e, modify-at q c' s.buffer r e) (rw e page)
        | no e ↦ rw (modify-off q c (buffer_of g p) r e, modify-off q c' s.buffer r e) (shows.buffer r m)
      ])
      shows.batch shows.filter

  -- the list changed, and its length in the head
  shows-list : (p' : List ℕ) (h : Head) (l : List ℕ) (es : List Entry) → Laid g p' h l (slot_bits g p) (buffer_of g p)
      → HeadWords h → h.flushes ≡ (head_of p).flushes → h.live ≡ live_of p → list_entries h.listed l ≡ es → ShowsPart g t p' f (remade s es s.buffer)
  shows-list p' h l es at words flushes live e =
      shows-laid ok at words (flushes ∙ shows.flushes) (live ∙ shows.live) e shows.buffer shows.batch shows.filter

  module _ (fits : length s.list ≤ g.list) where
    -- the list without the key's first entry
    shows-unlisted : (k : ℕ) → ShowsPart g t (unlisted g k p) f (remade s (erase k s.list) s.buffer)
    shows-unlisted k = go (listed_at (listed_of p) k (list_of g p)) refl
      where
        go : (o : Option ℕ) → listed_at (listed_of p) k (list_of g p) ≡ o → ShowsPart g t (unlisted g k p) f (remade s (erase k s.list) s.buffer)
        go None e = rw (not_listed g k p e, erase-none k s.list (list-find shows k ∙ ap (held_at 4 (list_of g p)) e)) shows
        go (Some i) e = shows-list _ (unlisted_head 1 (head_of p)) (struck i (listed_of p) (list_of g p)) _ (laid-unlisted g ok p shows.long shows.words k i e)
            (words-unlisted 1 (head_of p) shows.words) refl refl
            (entries-struck (listed_of p) (list_of g p) (omega (arith, fits, list_count shows, list-long g ok p shows.long)) k i e ∙ ap (erase k) shows.list)

  -- the list with the key at its end
  shows-listed : (k n : ℕ) → k < 2 ^ 64 → n < 2 ^ 32 → length s.list < g.list
      → ShowsPart g t (listed_with (Some n) g k p) f (remade s (s.list ++ (record { key = k; val = n } ∷ [])) s.buffer)
  shows-listed k n hk hn room =
      let free : listed_of p < g.list = omega (arith, list_count shows) in
      shows-list _ (listed_head (head_of p)) (enlisted (listed_of p) k n (list_of g p)) _ (laid-listed g ok p shows.long shows.words free k n)
      (words-listed (head_of p) shows.words (omega (arith, (sizes g ok).list-max))) refl refl
      (entries-enlisted (listed_of p) k n (list_of g p) hk hn (omega (arith, list-long g ok p shows.long))
      ∙ ap (λ (l : List Entry). l ++ (record { key = k; val = n } ∷ [])) shows.list)

module _ (g : Geometry) (ok : allowed g ≡ true) (t : ℕ) (p f : List ℕ) (s : Part) (shows : ShowsPart g t p f s) (part : PartOk g s)
    (k : ℕ) (hk : k < 2 ^ 64) where
  abbrev q : ℕ
  q = page_of g k

  page : ShowsPage g t q (buffer_of g p q) (s.buffer q)
  page = shows.buffer q (page-of-lt g ok k)

  pub shows-put : (v : ℕ) → v < 2 ^ 64 → length (store k v (s.buffer q)) ≤ capacity g
      → ShowsPart g t (unlisted g k (buffered g k v p)) f (stored_part g k v s)
  unfolding stored_part
  shows-put v hv room =
      shows-unlisted g ok t (buffered g k v p) f (remade s s.list (modify q (store k v) s.buffer))
      (shows-page g ok t p f s shows _ q (stored k v) (store k v) (laid-buffered g ok p shows.long k v) (shows-stored page ok k v hk hv room)) part.list_fits k

  -- the key out of its buffer page
  abbrev erased : Part
  erased = remade s s.list (modify q (erase k) s.buffer)

  shows-erased : ShowsPart g t (unbuffered g k p) f erased
  shows-erased = shows-page g ok t p f s shows _ q (without k) (erase k) (laid-unbuffered g ok p shows.long k) (shows-without page ok k)

  -- and listed with the youngest of these batches
  shows-del : (ns : List ℕ) → (is_empty ns ≡ false → length s.list < g.list) → LiveBatches s (suc s.flushes) ns
      → ShowsPart g t (listed_with (youngest ns) g k (unbuffered g k p)) f (remade erased (enlist k ns s.list) erased.buffer)
  unfolding enlist
  shows-del [] room live = shows-erased
  shows-del (n ∷ ns) room live =
      shows-listed g ok t (unbuffered g k p) f erased shows-erased k n hk (omega (arith, live.0.flushed, shows.flushes, shows.words.flushes)) (room refl)

  -- of a key that is not listed
  pub shows-deleted : is_some (find k s.list) ≡ false → (must_list g k s ≡ true → length s.list < g.list)
      → ShowsPart g t (listed_with (stamp_for g k p) g k (unbuffered g k p)) f (deleted_part g k s)
  unfolding deleted_part must_list
  shows-deleted new room =
      rw (passing-shown g ok t p f s shows k part.live_flushed)
      (simp new (shows-del (passing_of g k s) (λ Some. room (simp (new, Some))) (passing-live g k s part.live_flushed)))
