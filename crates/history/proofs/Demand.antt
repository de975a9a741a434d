-- Demand 3: an accepted format brings areas and history in step, every call keeps them so, and what holds then is the claim.
use Prim.Native.Nat.{ℕ, suc, ◌^◌, ◌≤◌, ◌<◌}
use mathlib.Core.Path.{◌≡◌, refl, sym, ◌∙◌, ap}
use mathlib.Core.List.{◌∷◌}
use Rattle.std.specs.Prelude.{Some}
use native.Mathlib.Omega.{arith}
use lib.ListN.{length}
use Rattle.model.specs.declared.Geometry.{Geometry}
use Rattle.model.specs.Keys.{partition_of, page_of}
use Rattle.model.specs.Partition.{partition}
use Rattle.model.specs.Answers.{Areas}
use Rattle.model.specs.Get.{sought}
use Rattle.model.specs.Calls.{format, get, geometry_in, reply, run}
use Rattle.model.proofs.Calls.{result-get, reply-accepted}
use Rattle.model.proofs.Lookup.{reads-most}
use Rattle.model.proofs.Sizes.{page-of-lt, partition-of-lt}
use Rattle.model.proofs.Tables.{find}
use Rattle.history.specs.History.{History, events, remember}
use Rattle.history.specs.Reads.{read_by}
use Rattle.history.specs.Claim.{said, value_of, Cost, GetsCost, Right, Holds, FromFormat, Demand3}
use Rattle.history.proofs.FromFormat.{from-format}
use Rattle.history.proofs.Bare.{bare, said_of, said-bare, bare_of, said-known, known-accepted}
use Rattle.history.proofs.Table.{Part}
use Rattle.history.proofs.Walk.{live-count}
use Rattle.history.proofs.Get.{batches_for, looked_up-known, batches-live}
use Rattle.history.proofs.Shows.{ShowsPart}
use Rattle.history.proofs.Reading.{sought-shown, read-shown, live-falling}
use Rattle.history.proofs.Following.{follows}
use Rattle.history.proofs.Costs.{gets-cost}
use Rattle.history.proofs.Checking.{get-checks}
use Rattle.history.proofs.InStep.{InStep, format-keeps}
use Rattle.history.proofs.Step.{step}
use Rattle.history.proofs.Positions.{AllPositions, all-positions, value-nonzero}

module _ (a : Areas) (h : History) (inv : InStep a h) where
  abbrev g : Geometry
  g = h.geometry

  module _ (k : ℕ) (hk : k < 2 ^ 64) where
    abbrev s : Part
    s = inv.table (partition_of g k)

    shown : ShowsPart g (partition_of g k) (partition g (partition_of g k) a.memory) a.flash s
    shown = inv.shows.part (partition_of g k) (partition-of-lt g inv.shows.ok k hk)

    within : s.live ≤ s.flushes
    within = (inv.good.core.parts (partition_of g k)).live_flushed

    answers : reply a (get k) ≡ sought g k (partition g (partition_of g k) a.memory) a.flash
    answers = reply-accepted a (get k) (get-checks inv k hk) ∙ result-get a g inv.shows.geometry k

    reads : read_by a k ≡ batches_for g k s (find k s.list) (find k (s.buffer (page_of g k)))
    reads = rw inv.shows.geometry (read-shown g inv.shows.ok k _ a.flash s shown within)

    -- the value, and the place that its age tells
    pub placed : bare (reply a (get k)) ≡ bare_of s.flushes (h.keys k)
    placed =
        ap bare answers
        ∙ sought-shown g inv.shows.ok k _ a.flash s shown within
        ∙ (looked_up-known g k s within (page-of-lt g inv.shows.ok k) (find k s.list) (find k (s.buffer (page_of g k))) (h.keys k) refl (inv.good.core.keys k))

    pub says : said (reply a (get k)) ≡ Some (value_of (h.keys k))
    says = said-bare (reply a (get k)) ∙ ap said_of placed ∙ said-known s.flushes (h.keys k)

    cost : Cost a k
    unfolding GetsCost
    cost = gets-cost a k (known-accepted (reply a (get k)) s.flushes (h.keys k) placed)

    right : AllPositions h → Right a h k
    right positions =
        let m = find k s.list in
        let b = find k (s.buffer (page_of g k)) in
        record {
          says = says;
          nonzero = λ e. value-nonzero (h.keys k) (positions k) (sym says ∙ e);
          reads = rw (cost.reads, reads, inv.good.core.lives (partition_of g k)) (omega (arith, reads-most (geometry_in a) (length (batches_for g k s m b)), live-count s (batches_for g k s m b) (batches-live g k s within m b)));
          cost = cost;
          follows = follows a k;
          batches = rw (reads, inv.shows.geometry, shown.flushes)
              (live-falling g inv.shows.ok k _ a.flash s shown within (suc s.flushes) (batches_for g k s m b) (batches-live g k s within m b));
        }

  holds : AllPositions h → Holds a h
  holds positions = record { each = λ k hk. right k hk positions; writes = omega (arith, inv.good.credit) }

pub in_step : FromFormat InStep
in_step = from-format InStep format-keeps step

pub demand3 : Demand3
unfolding Demand3
demand3 a h g accepted cs fits =
    holds (run a (format g ∷ cs)) (remember h (events a (format g ∷ cs))) (in_step a h g accepted cs fits) (all-positions a h g accepted cs fits)
