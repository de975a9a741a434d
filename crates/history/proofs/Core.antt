-- What a table and its history have in common, but for the counting of pages, and that a flush and a drop keep it.
use Prim.Native.Nat.{ℕ, zero, suc, ◌-◌, ◌≤◌}
use mathlib.Core.Bool.{false}
use mathlib.Core.Path.{◌≡◌, refl, sym, ◌∙◌, ap}
use mathlib.Core.List.{List}
use Rattle.std.specs.Prelude.{Option, None, Some}
use native.Mathlib.Omega.{arith}
use lib.Dec.{eqb}
use lib.ListN.{length}
use native.Mathlib.Decide.{ℕ_discrete}
use borrow.Author.Tests.{eq-eqb, ne_eqb}
use Rattle.model.specs.declared.Geometry.{Geometry}
use Rattle.model.specs.Geometry.{capacity}
use Rattle.model.specs.Keys.{partition_of, page_of}
use Rattle.model.proofs.Tests.{numbers, either}
use Rattle.model.proofs.Tables.{Entry, find, strike, Distinct, unless, find-strike, distinct-strike, length-strike}
use Rattle.model.proofs.Partitions.{modify, modify-at, modify-off}
use Rattle.history.specs.History.{Known, History, older, aged, unless_aged, lowered, with_key}
use Rattle.history.proofs.Modify.{modify-all, cond_both}
use Rattle.history.proofs.Table.{Part, Live, expires, live_after, flushed, dropped}
use Rattle.history.proofs.Told.{Told, told_same, told-flush, told-drop}

-- the pages of an age: the buffer at 0, then the batches, youngest first
abbrev pub pages_at : Part → ℕ → ℕ → List Entry
pages_at p zero q = p.buffer q
pages_at p (suc a) q = p.batch (p.flushes - a) q

abbrev pub seen : Geometry → Part → ℕ → ℕ → Option ℕ
seen g p k a = find k (pages_at p a (page_of g k))

abbrev pub KeyOk : Geometry → Part → ℕ → Option Known → Type 0
KeyOk g p k w = Told p.live p.flushes (find k p.list) (seen g p k) w

pub record PartOk (g : Geometry) (p : Part) : Type 0 where
  pub live_kept : p.live ≤ g.kept
  pub live_flushed : p.live ≤ p.flushes
  pub once : Distinct p.list
  pub list_fits : length p.list ≤ g.list
  pub stamps : (j n : ℕ) → find j p.list ≡ Some n → Live p n
  pub apart : (q : ℕ) → Distinct (p.buffer q)
  pub fits : (q : ℕ) → length (p.buffer q) ≤ capacity g
  pub batch_fits : (n q : ℕ) → length (p.batch n q) ≤ capacity g

pub record Agree (g : Geometry) (ps : ℕ → Part) (known : ℕ → Option Known) (lives₀ : ℕ → ℕ) : Type 0 where
  pub parts : (t : ℕ) → PartOk g (ps t)
  pub keys : (k : ℕ) → KeyOk g (ps (partition_of g k)) k (known k)
  pub lives : (t : ℕ) → lives₀ t ≡ (ps t).live

-- the totals do not matter here
abbrev pub Core : (ℕ → Part) → History → Type 0
Core ps h = Agree h.geometry ps h.keys h.live

module _ (g : Geometry) where
  pub flushed-pages : (p : Part) (q a : ℕ) → pages_at (flushed g p) (suc a) q ≡ pages_at p a q
  unfolding flushed
  flushed-pages p q zero = ap (λ (x : ℕ → List Entry). x q) (modify-at _ _ p.batch (suc p.flushes - 0) (omega arith))
  flushed-pages p q (suc a) =
      let e : suc p.flushes - suc a ≡ p.flushes - a = omega arith in
      ap (λ (x : ℕ → List Entry). x q) (modify-off _ _ p.batch (suc p.flushes - suc a) (omega arith)
      ∙ ap p.batch e)

  flushed-key : (p : Part) (k : ℕ) (w : Option Known) → PartOk g p → KeyOk g p k w → KeyOk g (flushed g p) k (older g.kept w)
  unfolding flushed find
  flushed-key p k w ok told =
      told_same (find-strike _ k p.list ok.once) (λ a. refl)
      (told-flush (seen g p k) (seen g (flushed g p) k) refl (λ a. ap (find k) (flushed-pages p (page_of g k) a)) g.kept told)

  -- a stamp that is left was there, and did not expire
  stamp-left : (p : Part) → PartOk g p → (back j n : ℕ) → find j (strike (expires back p.flushes) p.list) ≡ Some n → Live p n × (expires back p.flushes n ≡ false)
  stamp-left p ok back j n e = go (find j p.list) refl (sym (find-strike (expires back p.flushes) j p.list ok.once) ∙ e)
    where
      go : (o : Option ℕ) → find j p.list ≡ o → unless (expires back p.flushes) o ≡ Some n → Live p n × (expires back p.flushes n ≡ false)
      go None was now = let z : ◌≡◌ {A = ℕ} 0 1 = cc in absurd (omega arith)
      go (Some m) was now = either (expires back p.flushes m)
          (λ h. let z : None ≡ Some n = simp h at now in let z : ◌≡◌ {A = ℕ} 0 1 = cc in absurd (omega arith))
          (λ h. let same : Some m ≡ Some n = simp h at now in let e : m ≡ n = cc in rw (← e) (ok.stamps j m was, h))

  -- so it is still live
  flushed-stamps : (p : Part) → PartOk g p → (j n : ℕ) → find j (strike (expires g.kept p.flushes) p.list) ≡ Some n → Live (flushed g p) n
  unfolding flushed
  flushed-stamps p ok j n e =
      let left = stamp-left p ok g.kept j n e in
      let old = left.0 in
      record { first = old.first; flushed = omega (arith, old.flushed); near = omega (numbers, left.1, old.near, ok.live_kept) }

  pub flushed-ok : (p : Part) → PartOk g p → PartOk g (flushed g p)
  unfolding flushed
  flushed-ok p ok = record {
    live_kept = omega arith;
    live_flushed = omega (arith, ok.live_flushed);
    once = distinct-strike _ p.list ok.once;
    list_fits = omega (arith, length-strike (expires g.kept p.flushes) p.list, ok.list_fits);
    stamps = flushed-stamps p ok;
    apart = λ q. tt;
    fits = λ q. omega arith;
    batch_fits = modify-all (λ n pages. (q : ℕ) → length (pages q) ≤ capacity g) (suc p.flushes) (λ old. p.buffer) p.batch (λ n e. ok.fits) (λ n e. ok.batch_fits n);
  }

pub core-flush : (h : History) (t : ℕ) (ps : ℕ → Part) → Core ps h → Core (modify t (flushed h.geometry) ps) (aged t h)
unfolding modify flushed
core-flush h t ps c =
    let g = h.geometry in
    record {
      parts = modify-all (λ u. PartOk g) t (flushed g) ps (λ u e. flushed-ok g (ps u) (c.parts u)) (λ u e. c.parts u);
      keys = λ k. cond_both (λ p w. KeyOk g p k w) (eqb (partition_of g k) t)
          (flushed-key g _ k _ (c.parts (partition_of g k)) (c.keys k)) (c.keys k);
      lives = λ u. cond_both (λ (p : Part) (n : ℕ). n ≡ p.live) (eqb u t) (ap (live_after g.kept) (c.lives u)) (c.lives u);
    }

-- a drop: the key's places are as they were, and the oldest is live no more
module _ (g : Geometry) (p : Part) (ok : PartOk g p) where
  dropped-key : 1 ≤ p.live → (k : ℕ) (w : Option Known) → KeyOk g p k w → KeyOk g (dropped p) k (unless_aged p.live w)
  unfolding dropped
  dropped-key any k w told = told_same (find-strike _ k p.list ok.once) (λ a. same a) (told-drop any told)
    where
      same : (a : ℕ) → seen g (dropped p) k a ≡ seen g p k a
      same zero = refl
      same (suc a) = refl

  dropped-stamps : (j n : ℕ) → find j (strike (expires p.live p.flushes) p.list) ≡ Some n → Live (dropped p) n
  unfolding dropped
  dropped-stamps j n e =
      let left = stamp-left g p ok p.live j n e in
      let old = left.0 in
      record { first = old.first; flushed = old.flushed; near = omega (numbers, left.1, old.near) }

  pub dropped-ok : PartOk g (dropped p)
  unfolding dropped
  dropped-ok = record {
    live_kept = omega (arith, ok.live_kept);
    live_flushed = omega (arith, ok.live_flushed);
    once = distinct-strike _ p.list ok.once;
    list_fits = omega (arith, length-strike (expires p.live p.flushes) p.list, ok.list_fits);
    stamps = dropped-stamps;
    apart = ok.apart;
    fits = ok.fits;
    batch_fits = ok.batch_fits;
  }

pub core-drop : (h : History) (t : ℕ) (ps : ℕ → Part) → 1 ≤ (ps t).live → Core ps h → Core (modify t dropped ps) (lowered t h)
unfolding modify dropped
core-drop h t ps any c =
    let g = h.geometry in
    record {
      parts = modify-all (λ u. PartOk g) t dropped ps (λ u e. dropped-ok g (ps u) (c.parts u)) (λ u e. c.parts u);
      keys = λ k. elim (ℕ_discrete (partition_of g k) t) [
        | yes e ↦ rw (e, eq-eqb t t refl, c.lives t) (dropped-key g (ps t) (c.parts t) any k _ (rw e at (c.keys k)))
        | no e ↦ rw (ne_eqb (partition_of g k) t e) (c.keys k)
      ];
      lives = λ u. cond_both (λ (p : Part) (n : ℕ). n ≡ p.live) (eqb u t) (ap (λ (n : ℕ). n - 1) (c.lives u)) (c.lives u);
    }

-- `p'` is `p` changed for the one key `k`, of which the history then knows `w`
pub record Touch (g : Geometry) (k : ℕ) (w : Option Known) (p p' : Part) : Type 0 where
  pub ok : PartOk g p'
  pub own : KeyOk g p' k w
  pub other : (j : ℕ) → (j ≡ k → ⊥) → (v : Option Known) → KeyOk g p j v → KeyOk g p' j v
  pub same : p'.live ≡ p.live

module _ (h : History) (k : ℕ) (w : Option Known) (c : Part → Part) (ps : ℕ → Part) where
  pub core-touch : Core ps h → Touch h.geometry k w (ps (partition_of h.geometry k)) (c (ps (partition_of h.geometry k)))
      → Core (modify (partition_of h.geometry k) c ps) (with_key k w h)
  core-touch core touch =
      let g = h.geometry in
      let t : ℕ = partition_of g k in
      record {
        parts = modify-all (λ u. PartOk g) t c ps (λ u e. rw e touch.ok) (λ u e. core.parts u);
        keys = λ j. elim (ℕ_discrete j k) [
          | yes e ↦ rw (e, eq-eqb k k refl, modify-at t c ps t refl) touch.own
          | no e ↦ rw (ne_eqb j k e) (elim (ℕ_discrete (partition_of g j) t) [
            | yes same ↦ rw (modify-at t c ps (partition_of g j) same, same) (touch.other j e _ (rw same at (core.keys j)))
            | no apart ↦ rw (modify-off t c ps (partition_of g j) apart) (core.keys j)
          ])
        ];
        lives = modify-all (λ u p. h.live u ≡ p.live) t c ps (λ u e. rw e (core.lives t ∙ sym touch.same)) (λ u e. core.lives u);
      }
