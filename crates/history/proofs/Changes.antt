-- What a put and a del do to a partition changes it for their key alone.
use Prim.Native.Nat.{ℕ, zero, suc, ◌+◌, ◌-◌, ◌≤◌, ◌<◌}
use mathlib.Core.Bool.{true, false}
use mathlib.Core.Path.{◌≡◌, refl, sym, ◌∙◌, ap}
use mathlib.Core.List.{List, [], ◌∷◌}
use Rattle.std.specs.Prelude.{Option, None, Some}
use native.Mathlib.Omega.{arith}
use native.Mathlib.Decide.{ℕ_discrete}
use lib.ListN.{length}
use Rattle.model.specs.declared.Geometry.{Geometry}
use Rattle.model.specs.Search.{is_some}
use Rattle.model.specs.Geometry.{capacity}
use Rattle.model.specs.Keys.{page_of}
use Rattle.model.proofs.Tables.{Entry, find, store, erase, Distinct, find-store-same, find-store-other, find-erase-same, find-erase-other, store-new, distinct-store, distinct-erase, length-store, length-erase}
use Rattle.model.proofs.Partitions.{modify, modify-at}
use Rattle.history.specs.History.{Known}
use Rattle.history.proofs.Modify.{modify-all}
use Rattle.history.proofs.Table.{Part, Live, remade, passing, is_empty, must_list, stored, enlist, deleted}
use Rattle.history.proofs.Told.{listed, absent, present, told_same, told-forget}
use Rattle.history.proofs.Core.{seen, KeyOk, PartOk, Touch}
use Rattle.history.proofs.Walk.{LiveBatches, Above, skipped, passing-live}

-- a new list, and a new buffer page for the key
abbrev changed : Geometry → ℕ → Part → List Entry → (List Entry → List Entry) → Part
changed g k p l c = remade p l (modify (page_of g k) c p.buffer)

module _ (g : Geometry) (k : ℕ) (w : Option Known) (p : Part) (ok : PartOk g p) (l : List Entry) (c : List Entry → List Entry) where
  changed-touch : Distinct l → length l ≤ g.list → ((j : ℕ) → (j ≡ k → ⊥) → find j l ≡ find j p.list)
      → ((n : ℕ) → find k l ≡ Some n → Live p n)
      → Distinct (c (p.buffer (page_of g k))) → length (c (p.buffer (page_of g k))) ≤ capacity g
      → ((j : ℕ) → (j ≡ k → ⊥) → (b : List Entry) → find j (c b) ≡ find j b)
      → KeyOk g (changed g k p l c) k w → Touch g k w p (changed g k p l c)
  changed-touch once fits others stamp buffer_once buffer_fits buffer_others own = record {
    ok = record {
      live_kept = ok.live_kept;
      live_flushed = ok.live_flushed;
      once = once;
      list_fits = fits;
      stamps = λ j n e. elim (ℕ_discrete j k) [
        | yes same ↦ stamp n (rw same at e)
        | no apart ↦ ok.stamps j n (sym (others j apart) ∙ e)
      ];
      apart = modify-all (λ q. Distinct) (page_of g k) c p.buffer (λ q e. rw e buffer_once) (λ q e. ok.apart q);
      fits = modify-all (λ q b. length b ≤ capacity g) (page_of g k) c p.buffer (λ q e. rw e buffer_fits) (λ q e. ok.fits q);
      batch_fits = ok.batch_fits;
    };
    own = own;
    other = λ j n v. told_same (others j n) (λ a. elim a as (λ a. seen g (changed g k p l c) j a ≡ seen g p j a) [
      | zero ↦ modify-all (λ q b. find j b ≡ find j (p.buffer q)) (page_of g k) c p.buffer (λ q e. buffer_others j n (p.buffer q)) (λ q e. refl) (page_of g j)
      | suc a ↦ refl
    ]);
    same = refl;
  }

module _ (g : Geometry) (k : ℕ) (p : Part) (ok : PartOk g p) where
  pub stored-touch : (v : ℕ) → length (store k v (p.buffer (page_of g k))) ≤ capacity g
      → Touch g k (Some (record { value = v; age = 0 })) p (stored g k v p)
  unfolding stored
  stored-touch v room = changed-touch g k _ p ok (erase k p.list) (store k v)
      (distinct-erase k _ ok.once)
      (omega (arith, length-erase k p.list, ok.list_fits))
      (λ j n. find-erase-other j k n _)
      (λ n e. let gone = find-erase-same k p.list ok.once in let z : ◌≡◌ {A = ℕ} 0 1 = cc in absurd (omega arith))
      (distinct-store k v _ (ok.apart (page_of g k)))
      room
      (λ j n. find-store-other j k n v)
      (told_same (find-erase-same k _ ok.once) (λ a. refl)
      (present {v = v} {a = 0} (rw (modify-at (page_of g k) (store k v) p.buffer (page_of g k) refl) (find-store-same k v _))
      (omega arith) (λ b l. absurd (omega arith))))

  module _ (inside : page_of g k < g.pages) where
    -- the buffer page without the key holds nothing of it, and neither do the batches that a del looked past
    gone : (l : List Entry) (b : ℕ) → b ≤ p.live → ((c : ℕ) → b ≡ suc c → Above (p.flushes - c) (passing g k p))
        → seen g (changed g k p l (erase k)) k b ≡ None
    gone l zero x y = rw (modify-at (page_of g k) (erase k) p.buffer (page_of g k) refl) (find-erase-same k _ (ok.apart (page_of g k)))
    gone l (suc c) x y = skipped g k p inside p.live p.flushes (p.flushes - c) (omega arith) (omega arith) (y c refl)

    -- the key out of its buffer page, and a list that holds of the other keys what it held
    erased-touch : (l : List Entry) → Distinct l → length l ≤ g.list → ((j : ℕ) → (j ≡ k → ⊥) → find j l ≡ find j p.list)
        → ((n : ℕ) → find k l ≡ Some n → Live p n)
        → KeyOk g (changed g k p l (erase k)) k None → Touch g k None p (changed g k p l (erase k))
    erased-touch l once fits others stamp own = changed-touch g k None p ok l (erase k) once fits others stamp
        (distinct-erase k _ (ok.apart (page_of g k)))
        (omega (arith, length-erase k (p.buffer (page_of g k)), ok.fits (page_of g k)))
        (λ j n. find-erase-other j k n) own

    unlisted-touch : find k p.list ≡ None → (ns : List ℕ) → passing g k p ≡ ns → (is_empty ns ≡ false → length p.list < g.list)
        → Touch g k None p (changed g k p (enlist k ns p.list) (erase k))
    unfolding enlist
    unlisted-touch new [] e room = erased-touch p.list ok.once ok.list_fits (λ j n. refl) (ok.stamps k)
        (told_same new (λ a. refl) (absent (λ b l. gone p.list b l (λ c q. rw e tt))))
    unlisted-touch new (n ∷ ns) e room =
        let falls : LiveBatches p (suc p.flushes) (n ∷ ns) = rw e at (passing-live g k p ok.live_flushed) in
        let near = falls.0.near in
        rw (← (store-new k n p.list new)) (erased-touch (store k n p.list)
        (distinct-store k n _ ok.once)
        (simp (length-store, new) (room refl))
        (λ j x. find-store-other j k x n _)
        (λ m e. let now = find-store-same k n p.list in let same : m ≡ n = cc in rw same falls.0)
        (told_same (find-store-same k n _) (λ a. refl)
        (listed {s = n} (λ (b : ℕ) (l : b + n ≤ p.flushes). gone (store k n p.list) b (omega arith) (λ c q. rw e (omega arith))))))

    pub deleted-touch : (w : Option Known) → KeyOk g p k w → (must_list g k p ≡ true → length p.list < g.list)
        → Touch g k None p (deleted g k p)
    unfolding deleted must_list
    deleted-touch w told room = go (find k p.list) refl
      where
        go : (o : Option ℕ) → find k p.list ≡ o → Touch g k None p (deleted g k p)
        go None e = simp e (unlisted-touch e (passing g k p) refl (λ h. room (simp (e, h))))
        go (Some s) e = simp e (record { ok = ok; own = told-forget told (ap is_some e); other = λ j n v t. t; same = refl })
