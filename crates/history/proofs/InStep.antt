-- Areas and a history in step: there is a table that both areas show, whose entries the heads count, and what the history holds is true of it. A format, a flush and a drop keep them so.
use Prim.Native.Nat.{ℕ, ◌+◌, ◌^◌, ◌≤◌, ◌<◌}
use mathlib.Core.Bool.{true, false}
use mathlib.Core.Path.{◌≡◌, refl, sym, ◌∙◌}
use mathlib.Core.List.{List}
use Rattle.std.specs.Prelude.{None}
use native.Mathlib.Omega.{arith}
use lib.Dec.{eqb}
use Rattle.model.specs.declared.Geometry.{Geometry}
use Rattle.model.specs.Geometry.{allowed, partitions}
use Rattle.model.specs.Partition.{partition, total_of, flushes_of}
use Rattle.model.specs.Answers.{Areas}
use Rattle.model.specs.Refusals.{last_flush}
use Rattle.model.specs.Flush.{flush_in, with_batch}
use Rattle.model.specs.Drop.{drop_in}
use Rattle.model.specs.Calls.{format, flush, drop, checks, effect}
use Rattle.model.proofs.Sizes.{sizes, page-of-lt}
use Rattle.model.proofs.Lengths.{length-with_batch}
use Rattle.model.proofs.Tests.{numbers}
use Rattle.model.proofs.Partitions.{modify}
use Rattle.model.proofs.PartitionsFlash.{batch-out}
use Rattle.model.proofs.Checks.{format-accepted, flush-accepted, due-accepted, drop-accepted}
use Rattle.model.proofs.Calls.{checks-format, checks-flush, checks-drop, changed_at, effect-format, effect-flush, effect-drop}
use Rattle.history.specs.History.{History, blank, aged, lowered}
use Rattle.history.proofs.Table.{Part, empty, flushed as flushed_part, dropped as dropped_part}
use Rattle.history.proofs.Totals.{entries_all}
use Rattle.history.proofs.Good.{Fine, Good, good-blank, good-flush, good-drop}
use Rattle.history.proofs.Ends.{Counted, flush-counted, drop-counted}
use Rattle.history.proofs.Areas.{Shows, AllCounted, shows-opens, each-changed, shows-changed}
use Rattle.history.proofs.Formatting.{shows-formatted, counted-formatted}

pub record InStep (a : Areas) (h : History) : Type 0 where
  pub table : ℕ → Part
  pub shows : Shows a h.geometry table
  pub counted : AllCounted a h.geometry table
  pub good : Good table h

-- by this table
pub record InStepBy (a : Areas) (h : History) (ps : ℕ → Part) : Type 0 where
  pub shows : Shows a h.geometry ps
  pub counted : AllCounted a h.geometry ps
  pub good : Good ps h

abbrev pub by-table : {a : Areas} {h : History} {ps : ℕ → Part} → InStepBy a h ps → InStep a h
by-table {ps} by = record { table = ps; shows = by.shows; counted = by.counted; good = by.good }

fine_of : (g : Geometry) → allowed g ≡ true → Fine g
fine_of g ok = record { page_below = page-of-lt g ok; some_page = (sizes g ok).pages-min; some_entry = omega (arith, (sizes g ok).capacity-min) }

pub format-kept : (a : Areas) (g : Geometry) → checks a (format g) ≡ None → InStepBy (effect a (format g)) (blank g) (λ t. empty)
format-kept a g e =
    let passed = format-accepted g a (sym (checks-format a g) ∙ e) in
    rw (effect-format a g) (record {
      shows = shows-formatted g passed.0 a passed.1 passed.2;
      counted = counted-formatted g passed.0 a passed.1;
      good = good-blank g (fine_of g passed.0);
    })

pub format-keeps : (a : Areas) (g : Geometry) → checks a (format g) ≡ None → InStep (effect a (format g)) (blank g)
format-keeps a g e = by-table (format-kept a g e)

-- flash with the batch of partition t written
abbrev pub batch_written : Areas → Geometry → ℕ → List ℕ
batch_written a g t = with_batch g t (partition g t a.memory) g.pages a.flash

module _ (a : Areas) (h : History) (inv : InStep a h) where
  abbrev g : Geometry
  g = h.geometry

  module _ (t : ℕ) (below : t < partitions g) where
    pub counted-at : Counted g t (partition g t a.memory) a.flash (inv.table t)
    counted-at = record { shown = inv.shows.part t below; total = inv.counted t below }

    -- a flush number that is left
    pub next-number : eqb (inv.table t).flushes last_flush ≡ false → flushes_of (partition g t a.memory) + 1 < 2 ^ 32
    next-number e = omega (numbers, (inv.shows.part t below).flushes, (inv.shows.part t below).words.flushes)

    -- partition t changed, and flash as it was or with its batch written
    module _ (c : List ℕ → List ℕ) (c' : Part → Part) where
      pub changed-counted : (flash : List ℕ) → Counted g t (c (partition g t a.memory)) flash (c' (inv.table t))
          → AllCounted (changed_at a g inv.shows.geometry t c flash) g (modify t c' inv.table)
      changed-counted flash now =
          each-changed a g inv.table inv.shows t below c c' flash (λ u p s. total_of p ≡ entries_all g s) now.shown.long now.total (λ u e. inv.counted u)

      pub kept-shown : Counted g t (c (partition g t a.memory)) a.flash (c' (inv.table t))
          → Shows (changed_at a g inv.shows.geometry t c a.flash) g (modify t c' inv.table)
      kept-shown now = shows-changed a g inv.table inv.shows t below c c' a.flash refl (λ u j q other lu lj lq. refl) now.shown

      pub written-shown : Counted g t (c (partition g t a.memory)) (batch_written a g t) (c' (inv.table t))
          → Shows (changed_at a g inv.shows.geometry t c (batch_written a g t)) g (modify t c' inv.table)
      written-shown now =
          shows-changed a g inv.table inv.shows t below c c' (batch_written a g t) (length-with_batch g t _ g.pages a.flash)
          (λ u j q other lu lj lq. batch-out g inv.shows.ok t below _ a.flash inv.shows.flash_fits g.pages u j q (omega arith) lu lj lq (λ e f. other e)) now.shown

  pub flush-kept : (t : ℕ) → checks a (flush t) ≡ None → InStepBy (effect a (flush t)) (aged t h) (modify t (flushed_part g) inv.table)
  flush-kept t e =
      let own = inv.shows.geometry in
      let p : List ℕ = partition g t a.memory in
      let passed = flush-accepted g t p a.flash (sym (checks-flush a g own (shows-opens a g inv.table inv.shows) t) ∙ e) in
      let below = passed.0 in
      let more = next-number t below (rw (inv.shows.part t below).flushes at (due-accepted g t 0 p a.flash passed.4).0) in
      let now = flush-counted g inv.shows.ok t p a.flash (inv.table t) (counted-at t below) (inv.good.core.parts t) below inv.shows.flash_fits more in
      rw (effect-flush a g own t) (record {
        shows = written-shown t below (flush_in g t a.flash) (flushed_part g) now;
        counted = changed-counted t below (flush_in g t a.flash) (flushed_part g) _ now;
        good = good-flush inv.table h inv.good t below;
      })

  pub flush-keeps : (t : ℕ) → checks a (flush t) ≡ None → InStep (effect a (flush t)) (aged t h)
  flush-keeps t e = by-table (flush-kept t e)

  pub drop-kept : (t : ℕ) → checks a (drop t) ≡ None → InStepBy (effect a (drop t)) (lowered t h) (modify t dropped_part inv.table)
  drop-kept t e =
      let own = inv.shows.geometry in
      let p : List ℕ = partition g t a.memory in
      let passed = drop-accepted g t p a.flash (sym (checks-drop a g own (shows-opens a g inv.table inv.shows) t) ∙ e) in
      let below = passed.0 in
      let any : 1 ≤ (inv.table t).live = omega (numbers, passed.2, (inv.shows.part t below).live) in
      let now = drop-counted g inv.shows.ok t p a.flash (inv.table t) (counted-at t below) (inv.good.core.parts t) any in
      rw (effect-drop a g own t) (record {
        shows = kept-shown t below (drop_in g t a.flash) dropped_part now;
        counted = changed-counted t below (drop_in g t a.flash) dropped_part _ now;
        good = good-drop inv.table h inv.good t below any;
      })

  pub drop_keeps : (t : ℕ) → checks a (drop t) ≡ None → InStep (effect a (drop t)) (lowered t h)
  drop_keeps t e = by-table (drop-kept t e)
