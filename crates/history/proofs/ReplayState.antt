-- How far the replay of a text is: at source i of the old table, on page q, with n entries of that page passed. So far the new table has flushed at most i times.
use Prim.Native.Nat.{ℕ, suc, ◌≤◌, ◌<◌}
use mathlib.Core.Bool.{Bool, true, false, cond}
use mathlib.Core.Path.{◌≡◌, refl, sym}
use mathlib.Core.List.{List, []}
use Rattle.std.specs.Prelude.{Option, None, Some}
use native.Mathlib.Omega.{arith}
use native.Mathlib.Decide.{ℕ_discrete}
use lib.ListN.{length}
use Rattle.model.specs.declared.Geometry.{Geometry}
use Rattle.model.specs.Search.{is_some}
use Rattle.model.specs.Geometry.{capacity}
use Rattle.model.specs.Keys.{page_of}
use Rattle.model.specs.Answers.{Areas}
use Rattle.model.proofs.Tests.{either}
use Rattle.model.proofs.Tables.{Entry, find, store, length-store}
use Rattle.model.proofs.Partitions.{modify-at, modify-off}
use Rattle.history.specs.History.{Known, History, older}
use Rattle.history.proofs.Table.{Part, due, flushed, stored}
use Rattle.history.proofs.Told.{older-kept}
use Rattle.history.proofs.Good.{due-full}
use Rattle.history.proofs.InStep.{InStep}

-- ---- the partition: after i flushes, page q holds at most the n entries passed, and the pages behind it none
pub record PartAt (i q n : ℕ) (s : Part) : Type 0 where
  pub few : s.flushes ≤ i
  pub here : s.flushes ≡ i → length (s.buffer q) ≤ n
  pub ahead : s.flushes ≡ i → (r : ℕ) → q < r → length (s.buffer r) ≡ 0

stored-most : (k v : ℕ) (l : List Entry) → length (store k v l) ≤ suc (length l)
stored-most k v l = rw (length-store k v l) (either (is_some (find k l)) (λ e. rw e (omega arith)) (λ e. rw e (omega arith)))

module _ (g : Geometry) (k v : ℕ) (s : Part) {i q n : ℕ} (page : page_of g k ≡ q) where
  pub part-stored : PartAt i q n s → PartAt i q (suc n) (stored g k v s)
  unfolding stored
  part-stored at = record {
    few = at.few;
    here = λ e. rw (modify-at (page_of g k) (store k v) s.buffer q (sym page)) (omega (arith, at.here e, stored-most k v (s.buffer q)));
    ahead = λ e r l. rw (modify-off (page_of g k) (store k v) s.buffer r (omega arith)) (at.ahead e r l);
  }

  pub part-flushed : s.flushes < i → PartAt i q (suc n) (stored g k v (flushed g s))
  unfolding stored flushed
  part-flushed l = record {
    few = l;
    here = λ e. rw (modify-at (page_of g k) (store k v) (flushed g s).buffer q (sym page)) (omega (arith, stored-most k v []));
    ahead = λ e r l. rw (modify-off (page_of g k) (store k v) (flushed g s).buffer r (omega arith));
  }

  -- a page is full only where the table has flushed less
  pub due-early : PartAt i q n s → n < capacity g → due g k s ≡ true → s.flushes < i
  due-early at room d =
      let full : capacity g ≤ length (s.buffer q) = rw page at (due-full g k s d) in
      elim (ℕ_discrete s.flushes i) [ yes e ↦ absurd (omega (arith, at.here e)) | no e ↦ omega (arith, at.few) ]

-- ---- a key: what is known of it is the old table's value, and it is no older than the table
abbrev pub KeyAt : ℕ → Option ℕ → Option Known → Type 0
KeyAt F value None = Unit {0}
KeyAt F value (Some w) = (w.age ≤ F) × (value ≡ Some w.value)

-- and is known still
abbrev pub KeyNext : ℕ → Option ℕ → Option Known → Option Known → Type 0
KeyNext F value o o' = KeyAt F value o' × (is_some o ≡ true → is_some o' ≡ true)

pub next-same : (F F' : ℕ) (value : Option ℕ) (o : Option Known) → F ≤ F' → KeyAt F value o → KeyNext F' value o o
next-same F F' value None l at = (tt, λ e. e)
next-same F F' value (Some w) l at = ((omega (arith, at.0), at.1), λ e. e)

pub next-older : (kept F : ℕ) (value : Option ℕ) (o : Option Known) → F < kept → KeyAt F value o → KeyNext (suc F) value o (older kept o)
unfolding older
next-older kept F value None l at = (tt, λ e. e)
next-older kept F value (Some w) l at = rw (older-kept kept w.value w.age (omega (arith, at.0))) ((omega (arith, at.0), at.1), λ e. refl)

pub next-cond : (F : ℕ) (value : Option ℕ) (o : Option Known) (b : Bool) (x y : Option Known) → KeyNext F value o x → KeyNext F value o y → KeyNext F value o (cond b x y)
next-cond F value o true x y p q = p
next-cond F value o false x y p q = q

-- ---- the new table: `values` are those of the old one
pub record At (g : Geometry) (t : ℕ) (values : ℕ → Option ℕ) (i q n : ℕ) (b : Areas) (h : History) : Type 0 where
  pub in_step : InStep b h
  pub same_geometry : h.geometry ≡ g
  pub part : PartAt i q n (in_step.table t)
  pub keys : (k : ℕ) → KeyAt (in_step.table t).flushes (values k) (h.keys k)

-- an entry without a line, the next page, the next source
module _ {g : Geometry} {t : ℕ} {values : ℕ → Option ℕ} {i q n : ℕ} {b : Areas} {h : History} (at : At g t values i q n b h) where
  elsewhere : (i' q' n' : ℕ) → PartAt i' q' n' (at.in_step.table t) → At g t values i' q' n' b h
  elsewhere i' q' n' part = record { in_step = at.in_step; same_geometry = at.same_geometry; part = part; keys = at.keys }

  pub next-entry : At g t values i q (suc n) b h
  next-entry = elsewhere i q (suc n) (record { few = at.part.few; here = λ e. omega (arith, at.part.here e); ahead = at.part.ahead })

  pub next-page : At g t values i (suc q) 0 b h
  next-page = elsewhere i (suc q) 0 (record {
    few = at.part.few;
    here = λ e. omega (arith, at.part.ahead e (suc q) (omega arith));
    ahead = λ e r l. at.part.ahead e r (omega arith);
  })

  pub next-source : At g t values (suc i) 0 0 b h
  next-source = elsewhere (suc i) 0 0 (record {
    few = omega (arith, at.part.few);
    here = λ e. absurd (omega (arith, at.part.few));
    ahead = λ e r l. absurd (omega (arith, at.part.few));
  })
