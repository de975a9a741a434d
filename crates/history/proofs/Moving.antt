-- From a format on the text of a partition is accepted where there is room for it, and moves the partition into a fresh table.
use Prim.Native.Nat.{ℕ, ◌+◌, ◌^◌, ◌≤◌, ◌<◌}
use mathlib.Core.Bool.{false, false≢true}
use mathlib.Core.Path.{◌≡◌, refl, sym, ◌∙◌, ap}
use mathlib.Core.List.{List, [], ◌∷◌, append-nil}
use Rattle.std.specs.Prelude.{Option, None, Some}
use native.Mathlib.Omega.{arith}
use lib.ListN.{length}
use borrow.Author.Tests.{le-ltb}
use Rattle.model.specs.declared.Geometry.{Geometry}
use Rattle.model.specs.Search.{is_some}
use Rattle.model.specs.Geometry.{partitions}
use Rattle.model.specs.Keys.{partition_of, page_of}
use Rattle.model.specs.Partition.{partition, flushes_of, live_of}
use Rattle.model.specs.Answers.{Areas, Tally, Place, Answer, done, found, absent, shown, refused}
use Rattle.model.specs.Get.{sought}
use Rattle.model.specs.PartitionText.{partition_text}
use Rattle.model.specs.Calls.{format, get, text, reply, after, run}
use Rattle.model.specs.Session.{lines_of, lines_leave}
use Rattle.model.proofs.Sizes.{page-of-lt}
use Rattle.model.proofs.Calls.{result-format, result-text, reply-accepted, after-done}
use Rattle.model.proofs.Answering.{found-stands}
use Rattle.history.specs.History.{Known, History, blank, events, remember}
use Rattle.history.specs.Claim.{is_refused, said, value_of}
use Rattle.history.specs.Moving.{AllTaken, Moves, TextMoves}
use Rattle.history.proofs.FromFormat.{not-refused}
use Rattle.history.proofs.Checking.{text-checks}
use Rattle.history.proofs.InStep.{InStep, by-table, format-kept}
use Rattle.history.proofs.Positions.{AllPositions, all-positions}
use Rattle.history.proofs.Demand.{says, in_step}
use Rattle.history.proofs.Totalling.{live-flushed}
use Rattle.history.proofs.TextRoom.{text-room}
use Rattle.history.proofs.TextLines.{sought-says, line, few-lines}
use Rattle.history.proofs.Replay.{Ends}
use Rattle.history.proofs.ReplayState.{KeyAt, At}
use Rattle.history.proofs.ReplayText.{InText, ends-text}

-- a fresh table stands at the start
fresh : (g : Geometry) (t : ℕ) (values : ℕ → Option ℕ) (b : Areas) → is_refused (reply b (format g)) ≡ false → At g t values 0 0 0 (after b (format g)) (blank g)
fresh g t values b e =
    let passed = not-refused b (format g) e in
    rw (after-done b (format g) passed 0 (result-format b g)) (record {
      in_step = by-table (format-kept b g passed);
      same_geometry = refl;
      part = record { few = omega arith; here = λ e. omega arith; ahead = λ e r l. refl };
      keys = λ k. tt;
    })

-- a get says a value only where it finds one
unfound : (x : Answer) (v : ℕ) → said x ≡ Some (Some v) → ((c : Tally) (at : Place) → x ≡ found v c at → ⊥) → ⊥
unfound (found w c at) v e never = never c at (let same : w ≡ v = cc in rw same)
unfound (absent c) v e never = let z : ◌≡◌ {A = ℕ} 0 1 = cc in omega arith
unfound (done n) v e never = let z : ◌≡◌ {A = ℕ} 0 1 = cc in omega arith
unfound (shown s) v e never = let z : ◌≡◌ {A = ℕ} 0 1 = cc in omega arith
unfound (refused n r) v e never = let z : ◌≡◌ {A = ℕ} 0 1 = cc in omega arith

module _ (a : Areas) (h : History) (inv : InStep a h) (positions : AllPositions h) (t : ℕ) (inside : t < partitions h.geometry) where
  abbrev g : Geometry
  g = h.geometry

  abbrev p : List ℕ
  p = partition g t a.memory

  abbrev values : ℕ → Option ℕ
  values k = value_of (h.keys k)

  flushed : live_of p ≤ flushes_of p
  flushed = live-flushed g inv.shows.ok t p a.flash (inv.table t) (inv.shows.part t inside) (inv.good.core.parts t)

  told : (room : ℕ) → length (partition_text g t p a.flash) ≤ room → reply a (text t room) ≡ done (length (partition_text g t p a.flash))
  told room l =
      reply-accepted a (text t room) (text-checks inv t inside room ∙ rw (le-ltb room (length (partition_text g t p a.flash)) l))
      ∙ result-text a g inv.shows.geometry t room

  -- a key that a get finds has a line
  found-line : (k v : ℕ) (c : Tally) (at : Place) → partition_of g k ≡ t → sought g k p a.flash ≡ found v c at → InText g t p a.flash k
  found-line k v c at own e =
      let stands = found-stands g t p a.flash flushed k v c at own e in
      record {
        piece = stands.source;
        below = omega (arith, stands.source_below);
        stands = record {
          piece = page_of g k;
          below = page-of-lt g inv.shows.ok k;
          stands = record {
            piece = stands.place;
            below = stands.place_below;
            stands = (stands.answers, sym stands.key);
          };
        };
      }

  module _ (b : Areas) (accepted : is_refused (reply b (format g)) ≡ false) where
    abbrev start : Areas
    start = after b (format g)

    ends : Ends (partition_text g t p a.flash) start (blank g) (At g t values (live_of p + 1) 0 0) (InText g t p a.flash)
    ends = ends-text g t p a.flash values (line a h inv t inside positions) (few-lines a h inv t inside)
        (rw (inv.shows.part t inside).live (inv.good.core.parts t).live_kept) start (blank g) (fresh g t values b accepted)

    -- a key of the partition that is not known then was not known
    unknown : (k : ℕ) → k < 2 ^ 64 → partition_of g k ≡ t → ends.history.keys k ≡ None → (o : Option ℕ) → values k ≡ o → None ≡ o
    unknown k hk own e None was = refl
    unknown k hk own e (Some v) was = absurd (unfound (sought g k p a.flash) v (sought-says a h inv t inside k hk own ∙ ap Some was)
        (λ c at x. false≢true (sym (ap is_some e) ∙ ends.knows k (found-line k v c at own x))))

    same-value : (k : ℕ) → k < 2 ^ 64 → partition_of g k ≡ t → value_of (ends.history.keys k) ≡ values k
    same-value k hk own = go (ends.history.keys k) refl (ends.holds.keys k)
      where
        go : (o : Option Known) → ends.history.keys k ≡ o → KeyAt (ends.holds.in_step.table t).flushes (values k) o → value_of o ≡ values k
        go None e at = unknown k hk own e (values k) refl
        go (Some w) e at = sym at.1

    leaves : lines_leave (lines_of (partition_text g t p a.flash)) start ≡ ends.areas
    unfolding lines_leave lines_of
    leaves = rw (append-nil (partition_text g t p a.flash)) at (ends.reads.leaves [])

    taken : AllTaken (lines_of (partition_text g t p a.flash)) start
    unfolding lines_of
    taken = rw (append-nil (partition_text g t p a.flash)) at (ends.reads.taken [] tt)

    same : (k : ℕ) → k < 2 ^ 64 → partition_of g k ≡ t → said (reply (lines_leave (lines_of (partition_text g t p a.flash)) start) (get k)) ≡ said (reply a (get k))
    same k hk own =
        rw leaves (says ends.areas ends.history ends.holds.in_step k hk ∙ ap Some (same-value k hk own) ∙ sym (says a h inv k hk))

  moves : Moves a t
  moves = record {
    short = rw inv.shows.geometry (text-room g t p a.flash flushed);
    told = rw inv.shows.geometry told;
    moved = rw inv.shows.geometry (λ b accepted. record {
      taken = rw inv.shows.geometry (taken b accepted);
      same = rw inv.shows.geometry (same b accepted);
    });
  }

pub text-moves : TextMoves
unfolding TextMoves
text-moves a h g accepted cs fits = moves (run a (format g ∷ cs)) (remember h (events a (format g ∷ cs))) (in_step a h g accepted cs fits) (all-positions a h g accepted cs fits)
