-- The invariant: it holds of a fresh table, and a flush, a drop, a del and a put keep it.
use Prim.Native.Nat.{ℕ, zero, suc, ◌+◌, ◌*◌, ◌≤◌, ◌<◌}
use mathlib.Core.Bool.{Bool, true, false, cond, not}
use mathlib.Core.List.{[]}
use mathlib.Core.Path.{◌≡◌, refl, ap}
use Rattle.std.specs.Prelude.{None, Some}
use native.Mathlib.Omega.{arith}
use native.Mathlib.Nat.{add-zero, mul-le-mul_left}
use lib.Dec.{eqb}
use lib.ListN.{length}
use Rattle.model.specs.declared.Geometry.{Geometry}
use Rattle.model.specs.Search.{is_some}
use Rattle.model.specs.Geometry.{partitions, capacity}
use Rattle.model.specs.Keys.{partition_of, page_of}
use Rattle.model.proofs.Tests.{numbers, either, both_true}
use Rattle.model.proofs.Sums.{sum-zero, sum_same}
use Rattle.model.proofs.Tables.{find, store, length-store}
use Rattle.model.proofs.Partitions.{modify, modify-at}
use Rattle.history.specs.History.{History, blank, aged, lowered, with_key, counted}
use Rattle.history.proofs.Table.{Part, Live, empty, due, must_list, flushed, dropped, stored, deleted}
use Rattle.history.proofs.Told.{absent}
use Rattle.history.proofs.Core.{seen, KeyOk, PartOk, Core, core-flush, core-drop, core-touch}
use Rattle.history.proofs.Changes.{stored-touch, deleted-touch}
use Rattle.history.proofs.Credit.{entries_in, Credit, credit-change, flushed-entries, dropped-entries, stored-entries, deleted-entries, page-entries}

-- what an allowed geometry gives
pub record Fine (g : Geometry) : Type 0 where
  pub page_below : (k : ℕ) → page_of g k < g.pages
  pub some_page : 0 < g.pages
  pub some_entry : 0 < capacity g

pub record Good (ps : ℕ → Part) (h : History) : Type 0 where
  pub fine : Fine h.geometry
  pub core : Core ps h
  pub credit : Credit h.geometry ps h.puts h.put_pages

empty-key : (g : Geometry) (k : ℕ) → KeyOk g empty k None
unfolding find
empty-key g k = absent {f = seen g empty k} (λ b l. elim b as (λ b. seen g empty k b ≡ None) [ zero ↦ refl | suc a ↦ refl ])

none-listed : (j n : ℕ) → find j [] ≡ Some n → Live empty n
unfolding find
none-listed j n e = let z : ◌≡◌ {A = ℕ} 0 1 = cc in absurd (omega arith)

pub good-blank : (g : Geometry) → Fine g → Good (λ t. empty) (blank g)
good-blank g fine = record {
  fine = fine;
  core = record {
    parts = λ t. record { live_kept = omega arith; live_flushed = omega arith; once = tt; list_fits = omega arith; stamps = none-listed; apart = λ q. tt; fits = λ q. omega arith; batch_fits = λ n q. omega arith };
    keys = empty-key g;
    lives = λ t. refl;
  };
  credit =
      let none_at_all = sum_same (partitions g) (λ t. 0) (λ t. entries_in g empty) (λ t l. sum-zero g.pages) in
      omega (arith, ap (λ x. g.pages * x) none_at_all, ap (λ x. g.pages * x) (sum-zero (partitions g)));
}

module _ (g : Geometry) (k : ℕ) (p : Part) where
  pub due-full : due g k p ≡ true → capacity g ≤ length (p.buffer (page_of g k))
  unfolding due
  due-full h =
      let full = (both_true (not (is_some (find k (p.buffer (page_of g k))))) _ h).1 in
      omega numbers

  -- room for the entry where no flush is due, and after a flush
  pub room-free : (v : ℕ) → PartOk g p → due g k p ≡ false → length (store k v (p.buffer (page_of g k))) ≤ capacity g
  unfolding due
  room-free v good h = either (is_some (find k (p.buffer (page_of g k))))
      (λ s. simp (length-store, s) (good.fits (page_of g k)))
      (λ s.
      let free : eqb (length (p.buffer (page_of g k))) (capacity g) ≡ false = simp s at h in
      simp (length-store, s) (omega (numbers, good.fits (page_of g k))))

  pub room-flushed : (v : ℕ) → 0 < capacity g → length (store k v ((flushed g p).buffer (page_of g k))) ≤ capacity g
  unfolding flushed store
  room-flushed v h = h

module _ (ps : ℕ → Part) (h : History) (good : Good ps h) where
  pub good-flush : (t : ℕ) → t < partitions h.geometry → Good (modify t (flushed h.geometry) ps) (aged t h)
  good-flush t below = record {
    fine = good.fine;
    core = core-flush h t ps good.core;
    credit = credit-change h.geometry ps t below (flushed h.geometry) 0 _ _ _ _ (flushed-entries h.geometry (ps t)) good.credit (omega arith);
  }

  pub good-drop : (t : ℕ) → t < partitions h.geometry → 1 ≤ (ps t).live → Good (modify t dropped ps) (lowered t h)
  good-drop t below any = record {
    fine = good.fine;
    core = core-drop h t ps any good.core;
    credit = credit-change h.geometry ps t below dropped (entries_in h.geometry (ps t)) _ _ _ _ (dropped-entries h.geometry (ps t)) good.credit (omega arith);
  }

  pub good-del : (k : ℕ) → partition_of h.geometry k < partitions h.geometry
      → (must_list h.geometry k (ps (partition_of h.geometry k)) ≡ true → length (ps (partition_of h.geometry k)).list < h.geometry.list)
      → Good (modify (partition_of h.geometry k) (deleted h.geometry k) ps) (with_key k None h)
  good-del k below room =
      let g = h.geometry in
      let t : ℕ = partition_of g k in
      record {
        fine = good.fine;
        core = core-touch h k None (deleted g k) ps good.core
            (deleted-touch g k _ (good.core.parts _) (good.fine.page_below k) _ (good.core.keys k) room);
        credit = credit-change g ps t below (deleted g k) (entries_in g (ps t)) _ _ _ _
            (deleted-entries g (ps t) k (good.fine.page_below k)) good.credit (omega arith);
      }

-- a put for which there is room, after a flush that wrote n pages or none
good-store : (h : History) → Fine h.geometry → (ps : ℕ → Part) (n : ℕ) → Core ps h
    → Credit h.geometry ps h.puts (h.put_pages + n)
    → (k v : ℕ) → partition_of h.geometry k < partitions h.geometry
    → length (store k v ((ps (partition_of h.geometry k)).buffer (page_of h.geometry k))) ≤ capacity h.geometry
    → Good (modify (partition_of h.geometry k) (stored h.geometry k v) ps) (counted n (with_key k (Some (record { value = v; age = 0 })) h))
good-store h fine ps n core credit k v below room =
    let g = h.geometry in
    let t : ℕ = partition_of g k in
    record {
      fine = fine;
      core = core-touch h k _ (stored g k v) ps core (stored-touch g k _ (core.parts _) v room);
      credit = credit-change g ps t below (stored g k v) (suc (entries_in g (ps t))) _ _ _ _
          (stored-entries g (ps t) k (fine.page_below k) v) credit (omega arith);
    }

module _ (ps : ℕ → Part) (h : History) (good : Good ps h) where
  pub good-put : (k v : ℕ) → partition_of h.geometry k < partitions h.geometry → (b : Bool)
      → due h.geometry k (ps (partition_of h.geometry k)) ≡ b
      → Good (modify (partition_of h.geometry k) (stored h.geometry k v) (cond b (modify (partition_of h.geometry k) (flushed h.geometry) ps) ps))
      (counted (cond b h.geometry.pages 0) (with_key k (Some (record { value = v; age = 0 })) (cond b (aged (partition_of h.geometry k) h) h)))
  good-put k v below false e = good-store h good.fine ps 0 good.core (rw add-zero good.credit) k v below
      (room-free h.geometry k _ v (good.core.parts _) e)
  good-put k v below true e =
      let g = h.geometry in
      let t : ℕ = partition_of g k in
      let full : capacity g ≤ entries_in g (ps t) = omega (arith, due-full g k (ps t) e, page-entries g (ps t) k (good.fine.page_below k)) in
      good-store (aged t h) good.fine (modify t (flushed g) ps) g.pages (core-flush h t ps good.core)
      (credit-change g ps t below (flushed g) 0 h.puts h.puts h.put_pages (h.put_pages + g.pages)
      (flushed-entries g (ps t)) good.credit (omega (arith, mul-le-mul_left g.pages full)))
      k v below
      (rw (modify-at t (flushed g) ps t refl) (room-flushed g k (ps t) v good.fine.some_entry))
