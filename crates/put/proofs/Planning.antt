-- Which plan each outcome of the tests gives, what a plan means for the call, and what an accepted put can do.
use Prim.Native.Nat.{ℕ, ◌+◌, ◌≤◌, ◌<◌}
use mathlib.Core.Bool.{Bool, true, false, not}
use mathlib.Core.List.{List}
use Rattle.std.specs.Prelude.{Option, None, Some, Result, Ok, Err}
use Rattle.std.specs.Option.{is_some}
use mathlib.Core.Path.{◌≡◌, refl, sym, ◌∙◌, ap}
use native.Mathlib.Omega.{arith}
use Rattle.model.specs.declared.Geometry.{Geometry}
use Rattle.model.specs.Geometry.{partitions, capacity, most_entries}
use Rattle.model.specs.Keys.{partition_of, page_of}
use Rattle.model.specs.Page.{count_of, searched}
use Rattle.model.specs.Partition.{head_of, total_of, buffer_of}
use Rattle.model.specs.Batch.{leaving}
use Rattle.model.specs.Answers.{Refusal, unread}
use Rattle.model.specs.Refusals.{refuse_if, key_overfull, some_page_overfull, total_out}
use Rattle.model.specs.Flush.{due_checks}
use Rattle.model.specs.Put.{due, appends, put_checks}
use Rattle.model.proofs.Checks.{key_fits, due-accepted}
use Rattle.model.proofs.KeyedChecks.{due-kept, due-full, undue-room, no-position, a-position, appends-found, appends-new, room-12, room-undue, room-12-due, room-due, put-21, put-room, put-accepted}
use Rattle.model.proofs.Heads.{HeadWords, head-fits, total-in, in-total, total-above}
use Rattle.partition.specs.Ready.{Storable, Flushable}
use Rattle.partition.proofs.Flushing.{flushable}
use Rattle.answers.specs.Told.{unless}
use Rattle.outgoing.specs.Leaving.{leaving_for}
use Rattle.put.specs.declared.Plan.{Plan}
use Rattle.put.specs.declared.Plan.TheVariants.{Store, Flush}
use Rattle.put.specs.Plans.{plan_with, plan_store, plan_flush, plan_room, plan_for}

-- a full page is due for a key that it does not have; b is what `is_none` gives of the search
pub due_in_full : (g : Geometry) (k : ℕ) (p : List ℕ) → count_of (buffer_of g p (page_of g k)) ≡ capacity g
    → (o : Option ℕ) → o ≡ searched k (buffer_of g p (page_of g k)) → (b : Bool) → is_some o ≡ not b → b ≡ due g k p
due_in_full g k p full None e true h = sym (due-full g k p (sym e) full)
due_in_full g k p full None e false h = cc
due_in_full g k p full (Some i) e true h = cc
due_in_full g k p full (Some i) e false h = sym (due-kept g k p i (sym e))

-- what an outgoing batch lets a put do
abbrev pub plan_of : Result ℕ Refusal → Result Plan Refusal
plan_of (Ok n) = Ok (Flush n)
plan_of (Err r) = Err r

leaves : (o : Option Refusal) (n : ℕ) → plan_of (unless o n) ≡ plan_with o true n
leaves (Some r) n = refl
leaves None n = refl

-- where no flush is due, nothing leaves
stays : (o : Option Refusal) (n : ℕ) → plan_with o false n ≡ plan_with o false 0
stays (Some r) n = refl
stays None n = refl

-- ---- a put that flushes: as the outgoing batch lets it
pub flush-plan : (g : Geometry) (k : ℕ) (p f : List ℕ) (r : Result ℕ Refusal) → r ≡ leaving_for g (partition_of g k) 1 p f → plan_of r ≡ plan_flush g k p f
unfolding leaving_for plan_flush
flush-plan g k p f r e = ap plan_of e ∙ leaves (due_checks g (partition_of g k) 1 p f) (leaving g (partition_of g k) p f)

-- ---- a put that flushes nothing: room for the entry, no entry more, or 12
module _ (g : Geometry) (k : ℕ) (p : List ℕ) (fits : key_overfull g k p ≡ false) where
  stored : total_out g (appends g k p) 0 (head_of p) ≡ false → Ok Store ≡ plan_store g k p
  unfolding plan_store
  stored e = rw e

  most : total_of p ≤ most_entries g
  most = (head-fits g (head_of p) (key_fits g p k fits).0).total

  pub found : (i : ℕ) → searched k (buffer_of g p (page_of g k)) ≡ Some i → Ok Store ≡ plan_store g k p
  found i e = let none-more = appends-found g k p i e in stored (in-total g (head_of p) _ 0 (omega arith) (omega (arith, most)))

  pub room : total_of p < most_entries g → Ok Store ≡ plan_store g k p
  room l = by-search (searched k (buffer_of g p (page_of g k))) refl
    where
      by-search : (o : Option ℕ) → searched k (buffer_of g p (page_of g k)) ≡ o → Ok Store ≡ plan_store g k p
      by-search None e = let one_more = appends-new g k p e in stored (in-total g (head_of p) _ 0 (omega arith) (omega arith))
      by-search (Some i) e = found i e

  pub no_room : most_entries g ≤ total_of p → searched k (buffer_of g p (page_of g k)) ≡ None → Err (unread 12) ≡ plan_store g k p
  unfolding plan_store
  no_room l e = let one_more = appends-new g k p e in rw (total-above g (head_of p) (appends g k p) 0 (omega arith) (omega arith))

-- ---- from the tests to the plan
module _ (g : Geometry) (k : ℕ) (p f : List ℕ) where
  pub over : key_overfull g k p ≡ true → Err (unread 12) ≡ plan_room g k p f
  unfolding plan_room
  over h = rw (room-12 g k p f h)

  module _ (h : key_overfull g k p ≡ false) where
    pub not-due : due g k p ≡ false → plan_store g k p ≡ plan_room g k p f
    unfolding plan_room plan_store
    not-due d = rw (room-undue g k p f h d, d) (sym (stays (refuse_if (total_out g (appends g k p) 0 (head_of p)) 12 None) (leaving g (partition_of g k) p f)))

    module _ (d : due g k p ≡ true) where
      pub some-over : some_page_overfull g p ≡ true → Err (unread 12) ≡ plan_room g k p f
      unfolding plan_room
      some-over e = rw (room-12-due g k p f h d e)

      pub flush-first : some_page_overfull g p ≡ false → plan_flush g k p f ≡ plan_room g k p f
      unfolding plan_room plan_flush
      flush-first e = rw (room-due g k p f h d e, d)

module _ (g : Geometry) (k v : ℕ) (p f : List ℕ) where
  pub zero : v ≡ 0 → Err (unread 21) ≡ plan_for g k v p f
  unfolding plan_for
  zero z = rw (put-21 g k p v f (no-position v z))

  pub nonzero : (v ≡ 0 → ⊥) → plan_room g k p f ≡ plan_for g k v p f
  unfolding plan_for plan_room
  nonzero z = rw (put-room g k p v f (a-position v z))

  -- ---- what a plan means: which refusal the checks give, or that they give none, and whether a flush is due
  abbrev pub Means : Result Plan Refusal → Type 0
  Means (Err r) = put_checks g k v p f ≡ Some r
  Means (Ok Store) = (put_checks g k v p f ≡ None) × (due g k p ≡ false)
  Means (Ok (Flush n)) = (put_checks g k v p f ≡ None) × (due g k p ≡ true) × (n ≡ leaving g (partition_of g k) p f)

  means-with : (o : Option Refusal) (b : Bool) → put_checks g k v p f ≡ o → due g k p ≡ b → Means (plan_with o b (leaving g (partition_of g k) p f))
  means-with (Some r) b e d = e
  means-with None false e d = (e, d)
  means-with None true e d = (e, d, refl)

  pub plan-means : Means (plan_for g k v p f)
  unfolding plan_for
  plan-means = means-with (put_checks g k v p f) (due g k p) refl refl

  -- ---- an accepted put that flushes nothing finds room; one that flushes can be flushed, and the total has what leaves
  module _ (h : put_checks g k v p f ≡ None) where
    pub storable : due g k p ≡ false → Storable g k p
    storable d =
        let w = put-accepted g k p v f h in
        record {
          fits = w.1;
          room = λ new. let free = undue-room g k p d new in omega (arith, (key_fits g p k w.1).1);
        }

    module _ (d : due g k p ≡ true) where
      pub can-flush : (t : ℕ) → t < partitions g → HeadWords (head_of p) → Flushable g t p
      can-flush t below words =
          let w = put-accepted g k p v f h in
          let due = w.3 d in
          flushable g t p words below (key_fits g p k w.1).0 due.0 (due-accepted g (partition_of g k) 1 p f due.1).0

      pub can-leave : leaving g (partition_of g k) p f ≤ total_of p + 1
      can-leave = (total-in g (head_of p) 1 _ (due-accepted g (partition_of g k) 1 p f ((put-accepted g k p v f h).3 d).1).2).0
