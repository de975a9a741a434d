-- While areas and history are in step, a call is refused for its arguments or for what the table holds, and for nothing else: 2, 3, 11, 12 and 13 do not come up.
-- That is so of the 12 that comes last too, which judges the total at the call's end, and of the 13 for a head that a put, a flush, a drop or a text reads.
use Prim.Native.Nat.{ℕ, ◌<◌}
use mathlib.Core.Bool.{Bool, true, false, false≢true, not, ◌&&◌, ◌||◌}
use mathlib.Core.Path.{◌≡◌, refl, sym}
use mathlib.Core.List.{List, [], ◌∷◌}
use Rattle.std.specs.Prelude.{Option, None, Some}
use native.Mathlib.Omega.{arith}
use native.Mathlib.Decide.{dec_le}
use lib.Dec.{eqb, ltb}
use lib.ListN.{length}
use borrow.Author.Tests.{ltb-true, ltb-false, not-false}
use Rattle.model.specs.declared.Geometry.{Geometry}
use Rattle.model.specs.Geometry.{allowed, partitions, memory_need, flash_need}
use Rattle.model.specs.Keys.{partition_of}
use Rattle.model.specs.Partition.{partition, head_of, is_live}
use Rattle.model.specs.Answers.{Areas, Refusal, unread, Answer, done, found, absent, shown, refused}
use Rattle.model.specs.Refusals.{refuse_if, last_flush}
use Rattle.model.specs.Put.{no_position}
use Rattle.model.specs.Format.{format_checks}
use Rattle.model.specs.View.{viewed}
use Rattle.model.specs.PartitionText.{partition_text}
use Rattle.model.specs.Calls.{Call, format, put, get, del, flush, view, count, text, drop, checks, result, reply}
use Rattle.model.proofs.Tests.{either, both_true}
use Rattle.model.proofs.Tables.{any}
use Rattle.model.proofs.Checks.{refuse-none, format-1, format-2, format-3, format-passes}
use Rattle.model.proofs.Calls.{checks-format, result-format, result-put, result-del, result-flush, result-view, result_count, result-text, result-drop, reply-refused, reply-accepted, viewed-page}
use Rattle.history.specs.History.{History}
use Rattle.history.specs.Claim.{Fits, said}
use Rattle.history.proofs.Table.{Part, in_use, due, must_list}
use Rattle.history.proofs.Pages.{page-expected}
use Rattle.history.proofs.Shows.{live-by-table}
use Rattle.history.proofs.Checking.{put-checks, del-checks, flush-out, flush-checks, view_out, view-checks, count-out, count-checks, text_out, text-checks, drop-out, drop-checks}
use Rattle.history.proofs.InStep.{InStep}
use Rattle.history.proofs.Demand.{says}

-- the refusals that a call can meet
abbrev pub possible : Call → List ℕ
possible (format g) = 1 ∷ 2 ∷ 3 ∷ []
possible (put k v) = 21 ∷ 16 ∷ []
possible (get k) = []
possible (del k) = 14 ∷ []
possible (flush t) = 4 ∷ 15 ∷ 16 ∷ []
possible (view t q n) = 4 ∷ 17 ∷ []
possible (count t) = 4 ∷ []
possible (text t room) = 4 ∷ 22 ∷ []
possible (drop t) = 4 ∷ 23 ∷ []

-- a refusal of these, with no reads
abbrev pub Among : List ℕ → Answer → Type 0
Among ns (refused n r) = (any (eqb n) ns ≡ true) × (r ≡ 0)
Among ns (done n) = Unit {0}
Among ns (found v r p) = Unit {0}
Among ns (absent r) = Unit {0}
Among ns (shown s) = Unit {0}

-- the same of what checks say
abbrev Give : List ℕ → Option Refusal → Type 0
Give ns None = Unit {0}
Give ns (Some r) = Among ns (refused r.number r.reads)

give-if : (ns : List ℕ) (b : Bool) (n : ℕ) (later : Option Refusal) → any (eqb n) ns ≡ true → Give ns later → Give ns (refuse_if b n later)
give-if ns true n later e rest = (e, refl)
give-if ns false n later e rest = rest

among : (a : Areas) (c : Call) (ns : List ℕ) (o : Option Refusal) → checks a c ≡ o → Give ns o → (o ≡ None → Among ns (result a c)) → Among ns (reply a c)
among a c ns (Some r) e given ends = rw (reply-refused a c r e) given
among a c ns None e given ends = rw (reply-accepted a c e) (ends refl)

format-gives : (a : Areas) (g : Geometry) → Give (1 ∷ 2 ∷ 3 ∷ []) (format_checks g a)
unfolding any
format-gives a g = either (allowed g)
    (λ ok. elim (dec_le (memory_need g) (length a.memory)) [
      | yes m ↦ elim (dec_le (flash_need g) (length a.flash)) [
        | yes f ↦ rw (format-passes g a ok m f) tt
        | no f ↦ rw (format-3 g a ok m (omega arith)) (refl, refl)
      ]
      | no m ↦ rw (format-2 g a ok (omega arith)) (refl, refl)
    ])
    (λ no. rw (format-1 g a no) (refl, refl))

accepted : (x : Answer) (v : Option ℕ) → said x ≡ Some v → Among [] x
accepted (done n) v e = tt
accepted (found w r p) v e = tt
accepted (absent r) v e = tt
accepted (shown s) v e = tt
accepted (refused n r) v e = let z : ◌≡◌ {A = ℕ} 0 1 = cc in absurd (omega arith)

module _ (a : Areas) (h : History) (inv : InStep a h) where
  abbrev g : Geometry
  g = h.geometry

  -- a page of a live batch is as it must be
  page-shown : (t q n : ℕ) → t < partitions g → q < g.pages → not (eqb n 0) && not (is_live (head_of (partition g t a.memory)) n) ≡ false
      → Among (4 ∷ 17 ∷ []) (viewed g t q n a.flash)
  page-shown t q n lt lq e = either (eqb n 0)
      (λ z. rw (viewed-page, z) tt)
      (λ z.
      let at = inv.shows.part t lt in
      let page = at.batch n (live-by-table at n (not-false _ (simp z at e))) q lq in
      rw (viewed-page, z, page-expected page.page n page.flush) tt)

  abbrev p : ℕ → List ℕ
  p t = partition g t a.memory

  abbrev of : ℕ → Part
  of k = inv.table (partition_of g k)

  pub refusals-possible : (c : Call) → Fits c → Among (possible c) (reply a c)
  unfolding any
  refusals-possible (format g') fits = among a (format g') (1 ∷ 2 ∷ 3 ∷ []) _ (checks-format a g') (format-gives a g') (λ e. rw (result-format a g') tt)
  refusals-possible (put k v) fits =
      let ns : List ℕ = 21 ∷ 16 ∷ [] in
      let last = due g k (of k) && eqb (of k).flushes last_flush in
      among a (put k v) ns _ (put-checks inv k fits.0 v)
      (give-if ns (no_position v) 21 (refuse_if last 16 None) refl (give-if ns last 16 None refl tt)) (λ e. rw (result-put a _ refl k v _ refl) tt)
  refusals-possible (get k) fits = accepted (reply a (get k)) _ (says a h inv k fits)
  refusals-possible (del k) fits = among a (del k) (14 ∷ []) _ (del-checks inv k fits)
      (give-if (14 ∷ []) (must_list g k (of k) && eqb (length (of k).list) g.list) 14 None refl tt) (λ e. rw (result-del a k) tt)
  refusals-possible (flush t) fits = either (ltb t (partitions g))
      (λ l.
      let ns : List ℕ = 4 ∷ 15 ∷ 16 ∷ [] in
      let last = eqb (inv.table t).flushes last_flush in
      among a (flush t) ns _ (flush-checks inv t (ltb-true t (partitions g) l))
      (give-if ns (not (in_use g (inv.table t))) 15 (refuse_if last 16 None) refl (give-if ns last 16 None refl tt)) (λ e. rw (result-flush a _ refl t) tt))
      (λ l. rw (reply-refused a (flush t) (unread 4) (flush-out inv t (ltb-false t (partitions g) l))) (refl, refl))
  refusals-possible (view t q n) fits = either (ltb t (partitions g) && ltb q g.pages)
      (λ e.
      let both = both_true (ltb t (partitions g)) (ltb q g.pages) e in
      let below = ltb-true t (partitions g) both.0 in
      let page = ltb-true q g.pages both.1 in
      let dead = not (eqb n 0) && not (is_live (head_of (p t)) n) in
      among a (view t q n) (4 ∷ 17 ∷ []) _ (view-checks inv t below q n page)
      (give-if (4 ∷ 17 ∷ []) dead 17 None refl tt)
      (λ x. rw (result-view a g inv.shows.geometry t q n) (page-shown t q n below page (refuse-none dead 17 None x).0)))
      (λ e. rw (reply-refused a (view t q n) (unread 4)
      (view_out inv t q n (outside (ltb t (partitions g)) (ltb q g.pages) e))) (refl, refl))
    where
      outside : (x y : Bool) → x && y ≡ false → not x || not y ≡ true
      outside true true e = absurd (false≢true (sym e))
      outside true false e = refl
      outside false y e = refl
  refusals-possible (count t) fits = either (ltb t (partitions g))
      (λ l. among a (count t) (4 ∷ []) _ (count-checks inv t (ltb-true t (partitions g) l)) tt
      (λ e. rw (result_count a _ refl t) tt))
      (λ l. rw (reply-refused a (count t) (unread 4) (count-out inv t (ltb-false t (partitions g) l))) (refl, refl))
  refusals-possible (text t room) fits = either (ltb t (partitions g))
      (λ l. among a (text t room) (4 ∷ 22 ∷ []) _ (text-checks inv t (ltb-true t (partitions g) l) room)
      (give-if (4 ∷ 22 ∷ []) (ltb room (length (partition_text g t (p t) a.flash))) 22 None refl tt) (λ e. rw (result-text a _ refl t room) tt))
      (λ l. rw (reply-refused a (text t room) (unread 4) (text_out inv t room (ltb-false t (partitions g) l))) (refl, refl))
  refusals-possible (drop t) fits = either (ltb t (partitions g))
      (λ l. among a (drop t) (4 ∷ 23 ∷ []) _ (drop-checks inv t (ltb-true t (partitions g) l))
      (give-if (4 ∷ 23 ∷ []) (eqb (inv.table t).live 0) 23 None refl tt) (λ e. rw (result-drop a t) tt))
      (λ l. rw (reply-refused a (drop t) (unread 4) (drop-out inv t (ltb-false t (partitions g) l))) (refl, refl))
