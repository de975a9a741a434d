-- Laws of the checks of the calls with a key: which refusal each condition gives, and what a put may rely on once none refused it.
use Prim.Native.Nat.{ℕ}
use mathlib.Core.Bool.{true, false, not, ◌&&◌, and-false}
use mathlib.Core.Path.{◌≡◌}
use mathlib.Core.List.{List}
use Rattle.std.specs.Prelude.{None, Some}
use lib.Dec.{eqb}
use borrow.Author.Tests.{eqb-false, eq-eqb, ne_eqb, not-true}
use Rattle.model.specs.declared.Geometry.{Geometry}
use Rattle.model.specs.Search.{is_some}
use Rattle.model.specs.Geometry.{capacity}
use Rattle.model.specs.Keys.{partition_of, page_of}
use Rattle.model.specs.Page.{count_of, searched, added, taken}
use Rattle.model.specs.Partition.{head_of, listed_of, buffer_of}
use Rattle.model.specs.Answers.{unread}
use Rattle.model.specs.Refusals.{refuse_if, key_overfull, some_page_overfull, total_out}
use Rattle.model.specs.Flush.{due_checks}
use Rattle.model.specs.Put.{no_position, due, appends, room_checks, put_checks}
use Rattle.model.specs.Get.{get_checks}
use Rattle.model.specs.Del.{is_listed, stamp_for, removes, del_checks}
use Rattle.model.proofs.Tests.{both_true}
use Rattle.model.proofs.Checks.{refuse-none, none_found}

-- ---- put: which values are no position; when a flush is due; 21, 12, 12 or what a flush checks that is due
module _ (v : ℕ) where
  pub no-position : v ≡ 0 → no_position v ≡ true
  unfolding no_position
  no-position e = eq-eqb v 0 e

  pub a-position : (v ≡ 0 → ⊥) → no_position v ≡ false
  unfolding no_position
  a-position h = ne_eqb v 0 h

  pub position-not-0 : no_position v ≡ false → v ≡ 0 → ⊥
  unfolding no_position
  position-not-0 e = eqb-false v 0 e

module _ (g : Geometry) (k : ℕ) (p : List ℕ) where
  abbrev page : List ℕ
  page = buffer_of g p (page_of g k)

  pub due-kept : (i : ℕ) → searched k page ≡ Some i → due g k p ≡ false
  unfolding due
  due-kept i e = rw e

  pub due-room : (count_of page ≡ capacity g → ⊥) → due g k p ≡ false
  unfolding due
  due-room h = rw (ne_eqb _ _ h, and-false)

  pub due-full : searched k page ≡ None → count_of page ≡ capacity g → due g k p ≡ true
  unfolding due
  due-full e full = rw (e, eq-eqb _ _ full)

  -- a new key finds room where none is
  pub undue-room : due g k p ≡ false → searched k page ≡ None → count_of page ≡ capacity g → ⊥
  unfolding due
  undue-room h e = eqb-false (count_of page) (capacity g) (rw e at h)

  -- an append adds 1, and so does every put that flushes
  pub appends-found : (i : ℕ) → searched k page ≡ Some i → appends g k p ≡ 0
  unfolding appends added
  appends-found i e = rw e

  pub appends-new : searched k page ≡ None → appends g k p ≡ 1
  unfolding appends added
  appends-new e = rw e

  pub appends-due : due g k p ≡ true → appends g k p ≡ 1
  unfolding due
  appends-due e = appends-new (none_found _ (not-true _ (both_true (not (is_some (searched k page))) (eqb (count_of page) (capacity g)) e).0))

  -- what is checked whatever the value
  module _ (f : List ℕ) where
    pub room-12 : key_overfull g k p ≡ true → room_checks g k p f ≡ Some (unread 12)
    unfolding room_checks
    room-12 e = rw e

    module _ (fits : key_overfull g k p ≡ false) where
      pub room-undue : due g k p ≡ false → room_checks g k p f ≡ refuse_if (total_out g (appends g k p) 0 (head_of p)) 12 None
      unfolding room_checks
      room-undue e = rw (fits, e)

      pub room-12-due : due g k p ≡ true → some_page_overfull g p ≡ true → room_checks g k p f ≡ Some (unread 12)
      unfolding room_checks
      room-12-due is-due e = rw (fits, is-due, e)

      pub room-due : due g k p ≡ true → some_page_overfull g p ≡ false → room_checks g k p f ≡ due_checks g (partition_of g k) 1 p f
      unfolding room_checks
      room-due is-due e = rw (fits, is-due, e)

    -- what has passed: by whether a flush is due
    pub room-accepted : room_checks g k p f ≡ None → (key_overfull g k p ≡ false)
        × (due g k p ≡ false → total_out g (appends g k p) 0 (head_of p) ≡ false)
        × (due g k p ≡ true → (some_page_overfull g p ≡ false) × (due_checks g (partition_of g k) 1 p f ≡ None))
    unfolding room_checks
    room-accepted e =
        let one = refuse-none (key_overfull g k p) 12 _ e in
        (one.0, (λ d. (refuse-none _ 12 None (rw d at one.1)).0), (λ d. refuse-none (some_page_overfull g p) 12 _ (rw d at one.1)))

  module _ (v : ℕ) (f : List ℕ) where
    pub put-21 : no_position v ≡ true → put_checks g k v p f ≡ Some (unread 21)
    unfolding put_checks
    put-21 e = rw e

    module _ (position : no_position v ≡ false) where
      pub put-room : put_checks g k v p f ≡ room_checks g k p f
      unfolding put_checks
      put-room = rw position

    -- what an accepted put passed: by whether a flush was due
    pub put-accepted : put_checks g k v p f ≡ None → (no_position v ≡ false) × (key_overfull g k p ≡ false)
        × (due g k p ≡ false → total_out g (appends g k p) 0 (head_of p) ≡ false)
        × (due g k p ≡ true → (some_page_overfull g p ≡ false) × (due_checks g (partition_of g k) 1 p f ≡ None))
    unfolding put_checks
    put-accepted e = let one = refuse-none (no_position v) 21 _ e in let w = room-accepted f one.1 in (one.0, w.0, w.1, w.2)

  -- ---- get: 12
  pub get-12 : key_overfull g k p ≡ true → get_checks g k p ≡ Some (unread 12)
  unfolding get_checks
  get-12 e = rw e

  pub get-passes : key_overfull g k p ≡ false → get_checks g k p ≡ None
  unfolding get_checks
  get-passes e = rw e

  pub get-fits : get_checks g k p ≡ None → key_overfull g k p ≡ false
  unfolding get_checks
  get-fits e = (refuse-none (key_overfull g k p) 12 None e).0

  -- ---- del: 12, 14, 12
  pub del-12 : key_overfull g k p ≡ true → del_checks g k p ≡ Some (unread 12)
  unfolding del_checks
  del-12 e = rw e

  -- with what fits, only a place in the list can be wanting, or an entry in the total
  pub del-full : key_overfull g k p ≡ false → del_checks g k p
      ≡ refuse_if (not (is_listed g k p) && is_some (stamp_for g k p) && eqb (listed_of p) g.list) 14 (refuse_if (total_out g 0 (removes g k p) (head_of p)) 12 None)
  unfolding del_checks
  del-full e = rw e

  -- what a del takes out of the buffer
  pub removes-listed : is_listed g k p ≡ true → removes g k p ≡ 0
  unfolding removes
  removes-listed e = rw e

  pub removes-taken : is_listed g k p ≡ false → removes g k p ≡ taken k page
  unfolding removes
  removes-taken e = rw e
