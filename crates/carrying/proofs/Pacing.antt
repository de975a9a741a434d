-- While no flush or drop is asked for, each flush has E puts of its own and one put stands behind them all; and up to K flushes no key is old enough to be lost.
use Prim.Native.Nat.{ℕ, suc, ◌+◌, ◌-◌, ◌*◌, ◌^◌, ◌≤◌, ◌<◌}
use mathlib.Core.Bool.{Bool, true, false, cond}
use mathlib.Core.Path.{◌≡◌, refl, ◌∙◌, ap}
use mathlib.Core.List.{List, [], ◌∷◌}
use Rattle.std.specs.Prelude.{Option, None, Some}
use native.Mathlib.Omega.{arith}
use native.Mathlib.Numerals.{add-one}
use native.Mathlib.Nat.{add-zero, mul_assoc, mul-le-mul_left, le_of_mul-le-mul_left, lt_of_mul-lt-mul_right, le-div_iff_mul-le}
use lib.Dec.{eqb}
use lib.ListN.{length}
use borrow.Author.Tests.{eq-eqb}
use Rattle.model.specs.declared.Geometry.{Geometry}
use Rattle.model.specs.Geometry.{capacity, partitions}
use Rattle.model.specs.Keys.{partition_of, page_of}
use Rattle.model.specs.Batch.{sum}
use Rattle.model.specs.Card.{most_flushes, first_lost}
use Rattle.model.specs.Partition.{partition, flushes_of}
use Rattle.model.specs.Answers.{Areas}
use Rattle.model.specs.Calls.{Call, format, put, get, del, flush, view, count, text, drop, checks, reply, effect, after, run}
use Rattle.model.proofs.Tests.{either}
use Rattle.model.proofs.Sizes.{partition-of-lt}
use Rattle.model.proofs.Sums.{sum_same, sum-at, sum-change}
use Rattle.model.proofs.Tables.{Entry, find}
use Rattle.model.proofs.Partitions.{modify, modify-at, modify-off}
use Rattle.model.proofs.Calls.{result-del, effect-get, effect-view, effect-count, effect-text}
use Rattle.history.specs.History.{Known, History, Event, putting, deleting, looking, older, aged, with_key, counted, heard, accepted, events}
use Rattle.history.specs.Claim.{Fits, AllFit, said, value_of}
use Rattle.history.proofs.FromFormat.{call-leaves, look-leaves}
use Rattle.history.proofs.Modify.{modify-twice, cond_both}
use Rattle.history.proofs.Table.{Part, due, flushed, stored, deleted}
use Rattle.history.proofs.Told.{Told, listed, absent, present, older-kept}
use Rattle.history.proofs.Credit.{entries_in, page-entries}
use Rattle.history.proofs.InStep.{InStep, InStepBy, by-table}
use Rattle.history.proofs.Demand.{says}
use Rattle.history.proofs.Keyed.{del-kept, put-result, put-kept, table_put}
use Rattle.carrying.specs.Carrying.{Between, AllBetween, puts_of, puts_in, flushes_done, given, last_put}

-- ---- the flushes of all partitions
abbrev pub flushes_in : Geometry → (ℕ → Part) → ℕ
flushes_in g ps = sum (partitions g) (λ t. (ps t).flushes)

pub done-flushes : (a : Areas) (h : History) (inv : InStep a h) → flushes_done a ≡ flushes_in h.geometry inv.table
unfolding flushes_done
done-flushes a h inv =
    let g = h.geometry in
    rw inv.shows.geometry (sum_same (partitions g) (λ t. (inv.table t).flushes) (λ t. flushes_of (partition g t a.memory)) (λ t l. (inv.shows.part t l).flushes))

module _ (g : Geometry) (ps : ℕ → Part) (k : ℕ) (below : partition_of g k < partitions g) where
  abbrev t : ℕ
  t = partition_of g k

  changed-flushes : (c : Part → Part) → flushes_in g (modify t c ps) + (ps t).flushes ≡ flushes_in g ps + (c (ps t)).flushes
  changed-flushes c =
      let moved = sum-change t (partitions g) (λ u. (ps u).flushes) (λ u. (modify t c ps u).flushes) below (λ u off. ap (λ (p : Part). p.flushes) (modify-off t c ps u off)) in
      omega (arith, moved, ap (λ (p : Part). p.flushes) (modify-at t c ps t refl))

  pub put-flushes : (v : ℕ) (b : Bool) → flushes_in g (table_put g ps k v b) ≡ cond b (suc (flushes_in g ps)) (flushes_in g ps)
  unfolding stored flushed
  put-flushes v false = omega (arith, changed-flushes (stored g k v))
  put-flushes v true = rw (modify-twice t (stored g k v) (flushed g) ps) (omega (arith, changed-flushes (λ x. stored g k v (flushed g x))))

  del-flushes : flushes_in g (modify t (deleted g k) ps) ≡ flushes_in g ps
  unfolding deleted
  del-flushes = omega (arith, changed-flushes (deleted g k))

-- ---- one key
-- it stays when it ages, if it cannot be as old as K
older-stays : (K : ℕ) {live F : ℕ} {m : Option ℕ} {f : ℕ → Option ℕ} {w : Option Known} → Told live F m f w → live < K → value_of (older K w) ≡ value_of w
unfolding older
older-stays K (listed silent) young = refl
older-stays K (absent silent) young = refl
older-stays K (present {v = v} {a = a} here fits silent) young = rw (older-kept K v a (omega arith)) refl

-- at age 0 it is in its buffer page
new-held : {live F v : ℕ} {m : Option ℕ} {f : ℕ → Option ℕ} (k : ℕ) (l : List Entry) → Told live F m f (Some (record { value = v; age = 0 })) → f 0 ≡ find k l → 1 ≤ length l
unfolding find
new-held k [] (present here fits silent) e = let z : ◌≡◌ {A = ℕ} 0 1 = cc in absurd (omega arith)
new-held k (x ∷ l) told e = omega arith

-- ---- the pace
-- this history with the geometry g, which no call between the puts changes
abbrev pub under : Geometry → History → History
under g h = record { geometry = g; keys = h.keys; live = h.live; puts = h.puts; put_pages = h.put_pages }

-- There is a history of these areas with at most n puts, and d is what a table that loses nothing would hold.
pub record Paced (g : Geometry) (n : ℕ) (a : Areas) (d : ℕ → Option ℕ) : Type 0 where
  pub history : History
  pub in_step : InStep a (under g history)
  pub puts : history.puts ≤ n
  pub paid : history.put_pages ≡ g.pages * flushes_in g in_step.table
  pub few : flushes_in g in_step.table * capacity g ≤ n - 1
  pub kept : flushes_in g in_step.table ≤ g.kept → (k : ℕ) → k < 2 ^ 64 → value_of (history.keys k) ≡ d k

-- Of what puts have brought in, Q each, that of the latest is not yet spent: its entry is in the buffer.
pub unspent : (a : Areas) (h : History) (inv : InStep a h) (k v : ℕ) → k < 2 ^ 64 → h.keys k ≡ Some (record { value = v; age = 0 })
    → h.put_pages ≡ h.geometry.pages * flushes_in h.geometry inv.table → flushes_in h.geometry inv.table * capacity h.geometry < h.puts
unspent a h inv k v hk known paid =
    let g = h.geometry in
    let Q : ℕ = g.pages in
    let F : ℕ = flushes_in g inv.table in
    let s = inv.table (partition_of g k) in
    let entries : ℕ = sum (partitions g) (λ u. entries_in g (inv.table u)) in
    let some-entry : 1 ≤ entries = omega (
      arith,
      new-held k (s.buffer (page_of g k)) (rw known at (inv.good.core.keys k)) refl,
      page-entries g s k (inv.good.fine.page_below k),
      sum-at (partitions g) (λ u. entries_in g (inv.table u)) (partition_of g k) (partition-of-lt g inv.shows.ok k hk),
    ) in
    let credit : Q * F * capacity g + Q * entries ≤ Q * h.puts = rw paid at inv.good.credit in
    le_of_mul-le-mul_left {k = Q} (omega (arith, mul_assoc Q F (capacity g), mul-le-mul_left Q some-entry, credit)) inv.good.fine.some_page

module _ {g : Geometry} {n : ℕ} {a : Areas} {d : ℕ → Option ℕ} (at : Paced g n a d) where
  abbrev h : History
  h = under g at.history

  abbrev inv : InStep a h
  inv = at.in_step

  abbrev ps : ℕ → Part
  ps = at.in_step.table

  abbrev F : ℕ
  F = flushes_in g ps

  -- a put that is refused
  paced-more : Paced g (suc n) a d
  paced-more = record { history = h; in_step = inv; puts = omega (arith, at.puts); paid = at.paid; few = omega (arith, at.few); kept = at.kept }

  -- No key is older than the flushes done, so up to K one flush more leaves them all.
  pub aged-stays : (t : ℕ) → F < g.kept → (j : ℕ) → j < 2 ^ 64 → value_of ((aged t h).keys j) ≡ d j
  aged-stays t room j hj =
      let u : ℕ = partition_of g j in
      let young : (ps u).live < g.kept = omega (arith, (inv.good.core.parts u).live_flushed, sum-at (partitions g) (λ t. (ps t).flushes) u (partition-of-lt g inv.shows.ok j hj)) in
      let was : value_of (h.keys j) ≡ d j = at.kept (omega arith) j hj in
      either (eqb u t) (λ own. simp own (older-stays g.kept (inv.good.core.keys j) young ∙ was)) (λ off. simp off was)

  module _ (k : ℕ) (hk : k < 2 ^ 64) where
    pub below : partition_of g k < partitions g
    below = partition-of-lt g inv.shows.ok k hk

    del-paced : checks a (del k) ≡ None → Paced g n (effect a (del k)) (given d (deleting k))
    del-paced e =
        let same = del-flushes g ps k below in
        record {
          history = with_key k None h;
          in_step = by-table (del-kept a h inv k hk e);
          puts = at.puts;
          paid = rw same at.paid;
          few = rw same at.few;
          kept = λ l j hj. cond_both (λ o v. value_of o ≡ v) (eqb j k) refl (at.kept (rw same at l) j hj);
        }

    module _ (v : ℕ) (hv : v < 2 ^ 64) where
      -- x is the history with the put's flush, or without one
      abbrev pub put-paced-by : (x : History) (m : ℕ) {ps' : ℕ → Part} → InStepBy (effect a (put k v)) (under g (counted m (with_key k (Some (record { value = v; age = 0 })) x))) ps'
          → x.puts ≤ n → x.put_pages + m ≡ g.pages * flushes_in g ps' → (flushes_in g ps' ≤ g.kept → (j : ℕ) → j < 2 ^ 64 → value_of (x.keys j) ≡ d j)
          → Paced g (suc n) (effect a (put k v)) (given d (putting k v 0))
      put-paced-by x m by puts paid stays = record {
        history = counted m (with_key k (Some (record { value = v; age = 0 })) x);
        in_step = by-table by;
        puts = omega arith;
        paid = paid;
        few = omega (arith, unspent _ _ (by-table by) k v hk (rw (eq-eqb k k refl)) paid);
        kept = λ l j hj. cond_both (λ o v. value_of o ≡ v) (eqb j k) refl (stays l j hj);
      }

      abbrev pub put-paced : checks a (put k v) ≡ None → (b : Bool) → due g k (ps (partition_of g k)) ≡ b → Paced g (suc n) (effect a (put k v)) (given d (putting k v 0))
      put-paced e false is =
          let same = put-flushes g ps k below v false in
          put-paced-by h 0 (put-kept a h inv k hk v hv e false is) at.puts (rw same (omega (arith, at.paid))) (λ l. at.kept (rw same at l))
      put-paced e true is =
          let more = put-flushes g ps k below v true in
          put-paced-by (aged (partition_of g k) h) g.pages (put-kept a h inv k hk v hv e true is) at.puts (rw more (omega (arith, at.paid))) (λ l. aged-stays (partition_of g k) (rw more at l))

  -- ---- every call
  abbrev Next : Call → Areas → Event → Type 0
  Next c a' e = Paced g (n + puts_of c) a' (given d e)

  looks : (c : Call) → puts_of c ≡ 0 → ((m : ℕ) → accepted c m ≡ looking) → effect a c ≡ a → Next c (after a c) (heard c (reply a c))
  looks c no-put only same = let stays : Paced g (n + puts_of c) a d = rw (no-put, add-zero) at in look-leaves a c (Next c) only same stays stays

  next : (c : Call) → Fits c → Between c → Next c (after a c) (heard c (reply a c))
  next (format g) fits between = absurd between
  next (put k v) fits between = call-leaves a (put k v) (Next (put k v)) _ (put-result a h inv k fits.0 v fits.1) (rw add-one paced-more)
      (λ e. rw add-one (put-paced k fits.0 v fits.1 e (due g k (ps (partition_of g k))) refl))
  next (get k) fits between = looks (get k) refl (λ m. refl) (effect-get a k)
  next (del k) fits between = call-leaves a (del k) (Next (del k)) 0 (result-del a k) (rw add-zero at) (λ e. rw add-zero (del-paced k fits e))
  next (flush t) fits between = absurd between
  next (view t q m) fits between = looks (view t q m) refl (λ m. refl) (effect-view a t q m)
  next (count t) fits between = looks (count t) refl (λ m. refl) (effect-count a t)
  next (text t room) fits between = looks (text t room) refl (λ m. refl) (effect-text a t room)
  next (drop t) fits between = absurd between

  -- ---- the two bounds
  pub few-flushes : flushes_done a ≤ most_flushes g n
  unfolding most_flushes
  few-flushes = rw (done-flushes a h inv) ((le-div_iff_mul-le inv.good.fine.some_entry).1 at.few)

  pub none-lost : n < first_lost g → (k : ℕ) → k < 2 ^ 64 → said (reply a (get k)) ≡ Some (d k)
  unfolding first_lost
  none-lost early k hk =
      let few : F < g.kept + 1 = lt_of_mul-lt-mul_right (capacity g) (omega (arith, early, at.few, inv.good.fine.some_entry)) in
      says a h inv k hk ∙ ap Some (at.kept (omega arith) k hk)

pub along : {g : Geometry} (cs : List Call) → AllFit cs → AllBetween cs → (n m : ℕ) → n + puts_in cs ≡ m → (a : Areas) (d : ℕ → Option ℕ) → Paced g n a d
    → Paced g m (run a cs) (last_put d (events a cs))
unfolding puts_in run events last_put
along [] fits between n m e a d at = rw (← e, add-zero) at
along (c ∷ cs) fits between n m e a d at =
    along cs fits.1 between.1 (n + puts_of c) m (omega arith) (after a c) (given d (heard c (reply a c))) (next at c fits.0 between.0)
