-- What a flush, a drop, a put and a del end with: a total that counts the changed partition's entries, so that the last 12 stops none of them, and bytes that show it.
use Prim.Native.Nat.{ℕ, ◌+◌, ◌-◌, ◌^◌, ◌≤◌, ◌<◌}
use mathlib.Core.Bool.{true, false}
use mathlib.Core.Path.{◌≡◌, sym, ◌∙◌, ap}
use mathlib.Core.List.{List}
use Rattle.std.specs.Prelude.{Option, Some}
use native.Mathlib.Omega.{arith}
use lib.ListN.{length}
use Rattle.model.specs.declared.Geometry.{Geometry}
use Rattle.model.specs.Search.{is_some}
use Rattle.model.specs.Geometry.{allowed, partitions, capacity, most_entries, flash_need}
use Rattle.model.specs.Keys.{partition_of, page_of}
use Rattle.model.specs.Partition.{Head, head_of, totalled, flushes_of, listed_of, total_of}
use Rattle.model.specs.Batch.{leaving}
use Rattle.model.specs.Refusals.{total_out}
use Rattle.model.specs.Flush.{flushed, flush_in, with_batch}
use Rattle.model.specs.Drop.{oldest_entries, drop_in}
use Rattle.model.specs.Put.{appends, unlisted, buffered, put_in}
use Rattle.model.specs.Del.{is_listed, stamp_for, removes, unbuffered, listed_with, deleted}
use Rattle.model.proofs.Sizes.{sizes, page-of-lt, most-max}
use Rattle.model.proofs.Lengths.{length-buffered, length-unbuffered}
use Rattle.model.proofs.Tests.{either}
use Rattle.model.proofs.Tables.{find, store}
use Rattle.model.proofs.Heads.{HeadWords, in-total, total-dropped}
use Rattle.model.proofs.KeyedChecks.{removes-taken}
use Rattle.model.proofs.Totals.{total-buffered, total-unlisted, total-listed, total-unbuffered, total-flushed}
use Rattle.model.proofs.PartitionsCalls.{laid-buffered, laid-unbuffered, laid-dropped, put-kept, put-flushed, deleted-listed, deleted-stamped}
use Rattle.history.proofs.Table.{Part, must_list, due as due_in, flushed as flushed_part, dropped as dropped_part, stored as stored_part, deleted as deleted_part}
use Rattle.history.proofs.Core.{PartOk, flushed-ok, dropped-ok}
use Rattle.history.proofs.Changes.{stored-touch}
use Rattle.history.proofs.Totals.{entries_all, flushed-adds, all_most, flushed-all, dropped-all, stored-all, deleted-all}
use Rattle.history.proofs.Good.{room-free, room-flushed}
use Rattle.history.proofs.Shows.{ShowsPart, list_count, list-has}
use Rattle.history.proofs.Totalling.{due-shown, appends-shown, removes-shown, oldest-shown, leaving-shown, shows-totalled, total-totalled}
use Rattle.history.proofs.Passing.{must-list-shown}
use Rattle.history.proofs.Flushing.{shows-flushed}
use Rattle.history.proofs.Dropping.{shows-dropped}
use Rattle.history.proofs.Storing.{shows-put, shows-deleted}

-- bytes that show a partition, and whose head counts its entries
pub record Counted (g : Geometry) (t : ℕ) (p f : List ℕ) (s : Part) : Type 0 where
  pub shown : ShowsPart g t p f s
  pub total : total_of p ≡ entries_all g s

-- so many entries more and less, and there is room for as many as the table has then
stays-in : (g : Geometry) (p : List ℕ) (more less now : ℕ) → now ≤ most_entries g → total_of p + more ≡ now + less → total_out g more less (head_of p) ≡ false
stays-in g p more less now room e = in-total g (head_of p) more less (omega arith) (omega arith)

counted-totalled : (g : Geometry) (ok : allowed g ≡ true) (t : ℕ) (p f : List ℕ) (s : Part) → ShowsPart g t p f s → entries_all g s ≤ most_entries g
    → (more less : ℕ) → total_of p + more ≡ entries_all g s + less → Counted g t (totalled more less p) f s
counted-totalled g ok t p f s shows room more less e =
    let small : total_of p + more - less < 2 ^ 32 = omega (arith, most-max g ok) in
    record { shown = shows-totalled g ok t p f s shows more less small; total = total-totalled g ok t p f s shows more less small ∙ omega arith }

-- the total stays as it is until then
module _ (g : Geometry) (ok : allowed g ≡ true) (t : ℕ) (p f : List ℕ) (s : Part) (shows : ShowsPart g t p f s) (k : ℕ) where
  total-put : (v : ℕ) → total_of (unlisted g k (buffered g k v p)) ≡ total_of p
  total-put v =
      let words : HeadWords (head_of (buffered g k v p)) = rw (laid-buffered g ok p shows.long k v).head shows.words in
      total-unlisted g ok (buffered g k v p) (length-buffered g k v p ∙ shows.long) words k ∙ total-buffered g ok p shows.long k v

  total-del : (o : Option ℕ) → ((n : ℕ) → o ≡ Some n → listed_of p < g.list) → total_of (listed_with o g k (unbuffered g k p)) ≡ total_of p
  total-del o free =
      let same : head_of (unbuffered g k p) ≡ head_of p = (laid-unbuffered g ok p shows.long k).head in
      let words : HeadWords (head_of (unbuffered g k p)) = rw same shows.words in
      total-listed g ok (unbuffered g k p) (length-unbuffered g k p ∙ shows.long) words o (λ n e. rw (ap (λ (h : Head). h.listed) same) (free n e)) k
      ∙ total-unbuffered g ok p shows.long k

module _ (g : Geometry) (ok : allowed g ≡ true) (t : ℕ) (p f : List ℕ) (s : Part) (was : Counted g t p f s) (part : PartOk g s) where
  abbrev shows : ShowsPart g t p f s
  shows = was.shown

  -- ---- a flush: the batch that it pushes out
  flush-ends : total_of p + 0 ≡ entries_all g (flushed_part g s) + leaving g t p f
  flush-ends = omega (arith, was.total, flushed-all g s part, leaving-shown g ok t p f s shows part)

  flush-room : entries_all g (flushed_part g s) ≤ most_entries g
  flush-room = all_most g (flushed_part g s) (flushed-ok g s part)

  pub flush-in : total_out g 0 (leaving g t p f) (head_of p) ≡ false
  flush-in = stays-in g p 0 (leaving g t p f) _ flush-room flush-ends

  module _ (below : t < partitions g) (flash_fits : flash_need g ≤ length f) (more : flushes_of p + 1 < 2 ^ 32) where
    flush-shown : ShowsPart g t (flushed g t p) (with_batch g t p g.pages f) (flushed_part g s)
    flush-shown = shows-flushed g ok t below p f s shows part.list_fits flash_fits more

    flush-total : total_of (flushed g t p) ≡ total_of p
    flush-total = total-flushed g ok p shows.long shows.words t more

    pub flush-counted : Counted g t (flush_in g t f p) (with_batch g t p g.pages f) (flushed_part g s)
    unfolding flush_in
    flush-counted = counted-totalled g ok t _ _ _ flush-shown flush-room 0 (leaving g t p f) (ap (λ (n : ℕ). n + 0) flush-total ∙ flush-ends)

  -- ---- a drop: the oldest live batch
  module _ (any : 1 ≤ s.live) where
    drop-ends : total_of p + 0 ≡ entries_all g (dropped_part s) + oldest_entries g t p f
    drop-ends = omega (arith, was.total, dropped-all g s any, oldest-shown g ok t p f s shows part any)

    pub drop-in : total_out g 0 (oldest_entries g t p f) (head_of p) ≡ false
    drop-in = stays-in g p 0 (oldest_entries g t p f) _ (all_most g (dropped_part s) (dropped-ok g s part)) drop-ends

    pub drop-counted : Counted g t (drop_in g t f p) f (dropped_part s)
    unfolding drop_in
    drop-counted =
        let less = oldest_entries g t p f in
        record {
          shown = shows-dropped g ok t p f s shows part.list_fits less;
          total = ap (λ (h : Head). h.total) (laid-dropped g ok p shows.long shows.words less).head ∙ total-dropped g less p ∙ omega (arith, drop-ends);
        }

  module _ (k : ℕ) where
    -- ---- a del: the entry that leaves the buffer
    del-ends : total_of p + 0 ≡ entries_all g (deleted_part g k s) + removes g k p
    del-ends = omega (arith, was.total, deleted-all g s k (page-of-lt g ok k), removes-shown g ok t p f s shows k)

    del-room : entries_all g (deleted_part g k s) ≤ most_entries g
    del-room = omega (arith, all_most g s part, deleted-all g s k (page-of-lt g ok k))

    pub del-in : total_out g 0 (removes g k p) (head_of p) ≡ false
    del-in = stays-in g p 0 (removes g k p) _ del-room del-ends

    pub del-counted : k < 2 ^ 64 → (must_list g k s ≡ true → length s.list < g.list) → Counted g t (deleted g k p) f (deleted_part g k s)
    unfolding deleted_part
    del-counted hk room = either (is_some (find k s.list))
        (λ h. rw (deleted-listed g k p (list-has shows k ∙ h)) (simp h was))
        (λ h.
        let new : is_listed g k p ≡ false = list-has shows k ∙ h in
        let free : (n : ℕ) → stamp_for g k p ≡ Some n → listed_of p < g.list = λ n e. omega (arith, room (sym (must-list-shown g ok t p f s shows k part.live_flushed) ∙ rw (new, e)), list_count shows) in
        rw (deleted-stamped g k p new, ← (removes-taken g k p new))
        (counted-totalled g ok t _ f _ (shows-deleted g ok t p f s shows part k hk h room) del-room 0 (removes g k p)
        (ap (λ (n : ℕ). n + 0) (total-del g ok t p f s shows k (stamp_for g k p) free) ∙ del-ends)))

    -- ---- a put: the entry that it appends, and the batch that its flush pushes out
    module _ (v : ℕ) where
      put-ends : total_of p + appends g k p ≡ entries_all g (stored_part g k v s) + 0
      put-ends = omega (arith, was.total, stored-all g s k (page-of-lt g ok k) v, appends-shown g ok t p f s shows k)

      flushed-put-ends : total_of p + 1 ≡ entries_all g (stored_part g k v (flushed_part g s)) + leaving g t p f
      flushed-put-ends = omega (arith, flush-ends, stored-all g (flushed_part g s) k (page-of-lt g ok k) v, flushed-adds g s k)

      -- its page has room, and so has the total
      module _ (undue : due_in g k s ≡ false) where
        put-room : entries_all g (stored_part g k v s) ≤ most_entries g
        put-room = all_most g _ (stored-touch g k s part v (room-free g k s v part undue)).ok

        pub put-in : total_out g (appends g k p) 0 (head_of p) ≡ false
        put-in = stays-in g p (appends g k p) 0 _ put-room put-ends

        pub put-counted : k < 2 ^ 64 → v < 2 ^ 64 → Counted g t (put_in g k v f p) f (stored_part g k v s)
        put-counted hk hv =
            let stores = shows-put g ok t p f s shows part k hk v hv (room-free g k s v part undue) in
            rw (put-kept g k p v f (due-shown g ok t p f s shows k ∙ undue))
            (counted-totalled g ok t _ f _ stores put-room (appends g k p) 0 (ap (λ (n : ℕ). n + appends g k p) (total-put g ok t p f s shows k v) ∙ put-ends))

      page-room : length (store k v ((flushed_part g s).buffer (page_of g k))) ≤ capacity g
      page-room = room-flushed g k s v (omega (arith, (sizes g ok).capacity-min))

      flushed-put-room : entries_all g (stored_part g k v (flushed_part g s)) ≤ most_entries g
      flushed-put-room = all_most g _ (stored-touch g k (flushed_part g s) (flushed-ok g s part) v page-room).ok

      pub flushed-put-in : total_out g 1 (leaving g t p f) (head_of p) ≡ false
      flushed-put-in = stays-in g p 1 (leaving g t p f) _ flushed-put-room flushed-put-ends

      pub flushed-put-counted : k < 2 ^ 64 → v < 2 ^ 64 → due_in g k s ≡ true → partition_of g k ≡ t → t < partitions g → flash_need g ≤ length f → flushes_of p + 1 < 2 ^ 32
          → Counted g t (put_in g k v f p) (with_batch g t p g.pages f) (stored_part g k v (flushed_part g s))
      flushed-put-counted hk hv is-due own below flash_fits more =
          let flush = flush-shown below flash_fits more in
          let stores = shows-put g ok t (flushed g t p) _ (flushed_part g s) flush (flushed-ok g s part) k hk v hv page-room in
          let same : total_of (unlisted g k (buffered g k v (flushed g t p))) ≡ total_of p = total-put g ok t (flushed g t p) _ (flushed_part g s) flush k v ∙ flush-total below flash_fits more in
          rw (put-flushed g k p v f (due-shown g ok t p f s shows k ∙ is-due), own)
          (counted-totalled g ok t _ _ _ stores flushed-put-room 1 (leaving g t p f) (ap (λ (n : ℕ). n + 1) same ∙ flushed-put-ends))
