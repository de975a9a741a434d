-- What opening shows: memory and flash are a table, or every call but format gives the refusal of the common checks.
use Prim.Native.Nat.{ℕ}
use mathlib.Core.List.{List}
use mathlib.Core.Path.{◌≡◌, refl, sym, ◌∙◌}
use Rattle.std.specs.Prelude.{Option, None, Some, Result, Ok, Err, IsErrAnd}
use Rattle.model.specs.declared.Geometry.{Geometry}
use Rattle.model.specs.Opening.{geometry_of}
use Rattle.model.specs.Answers.{Refusal, Answer}
use Rattle.model.specs.Refusals.{unopened}
use Rattle.model.specs.Calls.{Call}
use Rattle.model.proofs.Calls.{opened, opens, unopened-stays, Opens, stopped}
use Rattle.answers.specs.declared.Reason.{Reason}
use Rattle.answers.specs.declared.Refusal as answers
use Rattle.answers.specs.Told.{as_refusal, unread, refusing}
use Rattle.answers.specs.Performs.{areas, Performs}
use Rattle.answers.proofs.Performing as performing
use Rattle.opening.specs.Opened.{IsTable}
use Rattle.opening.specs.Opened as opening

module _ (m f : List ℕ) where
  -- ---- what the common checks say is what opening gives
  pub refused : (r : Refusal) → unopened (areas m f) None ≡ Some r → Err r ≡ opening.opened m f
  unfolding opening.opened
  refused r e = rw e

  pub passed : (g : Geometry) → g ≡ geometry_of m → unopened (areas m f) None ≡ None → Ok g ≡ opening.opened m f
  unfolding opening.opened
  passed g own e = rw (own, e)

  -- ---- what a caller has of it
  pub opened-table : (g : Geometry) → Ok g ≡ opening.opened m f → IsTable g m f
  opened-table g e = go (unopened (areas m f) None) refl
    where
      go : (o : Option Refusal) → unopened (areas m f) None ≡ o → IsTable g m f
      go None z =
          let w = opened (areas m f) None z in
          let d = e ∙ sym (passed (geometry_of m) refl z) in
          let own : geometry_of m ≡ g = cc in
          record { own = own; fine = rw own at w.fine; memory_fits = rw own at w.memory_fits; flash_fits = rw own at w.flash_fits; opens = opens (areas m f) w }
      go (Some r) z = let d = e ∙ sym (refused r z) in absurd cc

  module _ (reason : Reason) (e : Err (as_refusal (unread reason)) ≡ opening.opened m f) where
    abbrev told : Refusal
    told = as_refusal (unread reason)

    -- the answer of each call
    pub refuses : (c : Call) → Opens c → Performs c m f (refusing (unread reason)) m f
    refuses c o = go (unopened (areas m f) None) refl
      where
        go : (s : Option Refusal) → unopened (areas m f) None ≡ s → Performs c m f (refusing (unread reason)) m f
        go None z = let d = e ∙ sym (passed (geometry_of m) refl z) in absurd cc
        go (Some r) z =
            let d = e ∙ sym (refused r z) in
            let same : r ≡ told = cc in
            performing.refusing c m f told (stopped (areas m f) told (rw same at (unopened-stays (areas m f) r z).2) c o)

    -- what its `?` returns tells that answer
    pub opening-stops : {A : Type 0} (tell : Result A answers.Refusal → Answer) (c : Call) → Opens c → (r : Result A answers.Refusal) → IsErrAnd r (λ x. x ≡ unread reason) → tell (Err (unread reason)) ≡ refusing (unread reason) → Performs c m f (tell r) m f
    opening-stops tell c o (Err x) h t = rw (h, t) (refuses c o)
    opening-stops tell c o (Ok x) h t = absurd h
