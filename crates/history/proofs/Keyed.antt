-- A del keeps areas and history in step, and so does a put, with a flush before it and without one.
use Prim.Native.Nat.{ℕ, ◌^◌, ◌<◌}
use mathlib.Core.Bool.{Bool, true, false, cond, ◌&&◌}
use mathlib.Core.Path.{◌≡◌, refl, sym, ◌∙◌}
use Rattle.std.specs.Prelude.{None, Some}
use native.Mathlib.Omega.{arith}
use lib.Dec.{eqb}
use lib.ListN.{length}
use borrow.Author.Tests.{ne_eqb}
use Rattle.model.specs.declared.Geometry.{Geometry}
use Rattle.model.specs.Geometry.{partitions}
use Rattle.model.specs.Keys.{partition_of}
use Rattle.model.specs.Partition.{partition}
use Rattle.model.specs.Answers.{Areas, done}
use Rattle.model.specs.Refusals.{last_flush}
use Rattle.model.specs.Put.{no_position, due, put_in}
use Rattle.model.specs.Del.{deleted}
use Rattle.model.specs.Calls.{del, put, checks, result, effect}
use Rattle.model.proofs.Sizes.{partition-of-lt}
use Rattle.model.proofs.Partitions.{modify}
use Rattle.model.proofs.Checks.{refuse-none}
use Rattle.model.proofs.Calls.{result-put, effect-put, effect-del}
use Rattle.model.proofs.Tests.{numbers}
use Rattle.history.specs.History.{History, aged, with_key, counted, putting, note}
use Rattle.history.proofs.Modify.{modify-twice}
use Rattle.history.proofs.Table.{Part, must_list, due as due_in, flushed as flushed_part, stored as stored_part, deleted as deleted_part}
use Rattle.history.proofs.Core.{PartOk}
use Rattle.history.proofs.Good.{good-del, good-put}
use Rattle.history.proofs.Totalling.{due-shown}
use Rattle.history.proofs.Ends.{Counted, put-counted, flushed-put-counted, del-counted}
use Rattle.history.proofs.Checking.{put-checks, del-checks}
use Rattle.history.proofs.InStep.{InStep, InStepBy, by-table, counted-at, next-number, changed-counted, kept-shown, written-shown}

-- what a put makes of the table and of the history, with a flush before it or without one
abbrev pub table_put : Geometry → (ℕ → Part) → ℕ → ℕ → Bool → ℕ → Part
table_put g ps k v b = modify (partition_of g k) (stored_part g k v) (cond b (modify (partition_of g k) (flushed_part g) ps) ps)

abbrev pub history_put : History → ℕ → ℕ → Bool → History
history_put h k v b =
    counted (cond b h.geometry.pages 0) (with_key k (Some (record { value = v; age = 0 })) (cond b (aged (partition_of h.geometry k) h) h))

module _ (a : Areas) (h : History) (inv : InStep a h) (k : ℕ) (hk : k < 2 ^ 64) where
  abbrev g : Geometry
  g = h.geometry

  abbrev t : ℕ
  t = partition_of g k

  abbrev s : Part
  s = inv.table t

  below : t < partitions g
  below = partition-of-lt g inv.shows.ok k hk

  was : Counted g t (partition g t a.memory) a.flash s
  was = counted-at a h inv t below

  part : PartOk g s
  part = inv.good.core.parts t

  free-place : checks a (del k) ≡ None → must_list g k s ≡ true → length s.list < g.list
  free-place e must =
      let free = (refuse-none (must_list g k s && eqb (length s.list) g.list) 14 None (sym (del-checks inv k hk) ∙ e)).0 in
      let less : eqb (length s.list) g.list ≡ false = simp must at free in
      omega (numbers, (inv.good.core.parts t).list_fits)

  pub del-kept : checks a (del k) ≡ None → InStepBy (effect a (del k)) (with_key k None h) (modify t (deleted_part g k) inv.table)
  del-kept e =
      let now = del-counted g inv.shows.ok t _ _ s was part k hk (free-place e) in
      rw (effect-del a g inv.shows.geometry k) (record {
        shows = kept-shown a h inv t below (deleted g k) (deleted_part g k) now;
        counted = changed-counted a h inv t below (deleted g k) (deleted_part g k) _ now;
        good = good-del inv.table h inv.good k below (free-place e);
      })

  pub del-keeps : checks a (del k) ≡ None → InStep (effect a (del k)) (with_key k None h)
  del-keeps e = by-table (del-kept e)

  module _ (v : ℕ) (hv : v < 2 ^ 64) where
    is-due : due g k (partition g t a.memory) ≡ due_in g k s
    is-due = due-shown g inv.shows.ok t _ _ s was.shown k

    pub put-result : result a (put k v) ≡ done (cond (due_in g k s) g.pages 0)
    put-result = result-put a g inv.shows.geometry k v (due_in g k s) is-due

    number-left : checks a (put k v) ≡ None → due_in g k s ≡ true → eqb s.flushes last_flush ≡ false
    number-left e d =
        let later = (refuse-none (no_position v) 21 _ (sym (put-checks inv k hk v) ∙ e)).1 in
        let free = (refuse-none (due_in g k s && eqb s.flushes last_flush) 16 None later).0 in
        simp d at free

    pub put-kept : checks a (put k v) ≡ None → (b : Bool) → due_in g k s ≡ b → InStepBy (effect a (put k v)) (history_put h k v b) (table_put g inv.table k v b)
    put-kept e false d =
        let now = put-counted g inv.shows.ok t _ _ s was part k v d hk hv in
        rw (effect-put a g inv.shows.geometry k v false (is-due ∙ d)) (record {
          shows = kept-shown a h inv t below (put_in g k v a.flash) (stored_part g k v) now;
          counted = changed-counted a h inv t below (put_in g k v a.flash) (stored_part g k v) _ now;
          good = good-put inv.table h inv.good k v below false d;
        })
    put-kept e true d =
        let both : Part → Part = λ x. stored_part g k v (flushed_part g x) in
        let now = flushed-put-counted g inv.shows.ok t _ _ s was part k v hk hv d refl below inv.shows.flash_fits (next-number a h inv t below (number-left e d)) in
        rw (effect-put a g inv.shows.geometry k v true (is-due ∙ d)) (record {
          shows = rw (modify-twice t (stored_part g k v) (flushed_part g) inv.table) (written-shown a h inv t below (put_in g k v a.flash) both now);
          counted = rw (modify-twice t (stored_part g k v) (flushed_part g) inv.table) (changed-counted a h inv t below (put_in g k v a.flash) both _ now);
          good = good-put inv.table h inv.good k v below true d;
        })

    pub put_keeps : checks a (put k v) ≡ None → InStep (effect a (put k v)) (note h (putting k v (cond (due_in g k s) g.pages 0)))
    unfolding note
    put_keeps e = go (due_in g k s) refl
      where
        go : (b : Bool) → due_in g k s ≡ b → InStep (effect a (put k v)) (note h (putting k v (cond b g.pages 0)))
        go false d = by-table (put-kept e false d)
        go true d = rw (ne_eqb g.pages 0 (omega (arith, inv.good.fine.some_page))) (by-table (put-kept e true d))
