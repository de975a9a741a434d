-- One line of the replay: its put is accepted, and its key is known then.
use Prim.Native.Nat.{ℕ, suc, ◌^◌, ◌≤◌, ◌<◌}
use mathlib.Core.Bool.{Bool, true, false, cond, and-false}
use mathlib.Core.Path.{◌≡◌, refl, sym, ◌∙◌, ap}
use Rattle.std.specs.Prelude.{Option, None, Some}
use native.Mathlib.Omega.{arith}
use native.Mathlib.Decide.{ℕ_discrete}
use lib.Dec.{eqb}
use borrow.Author.Tests.{eq-eqb, ne_eqb}
use Rattle.model.specs.declared.Geometry.{Geometry}
use Rattle.model.specs.Geometry.{capacity}
use Rattle.model.specs.Keys.{partition_of, page_of}
use Rattle.model.specs.Answers.{Areas}
use Rattle.model.specs.Refusals.{last_flush}
use Rattle.model.specs.PartitionText.{put_text}
use Rattle.model.specs.Calls.{put, checks, reply, after}
use Rattle.model.proofs.Sizes.{sizes}
use Rattle.model.proofs.Partitions.{modify-at}
use Rattle.model.proofs.KeyedChecks.{a-position}
use Rattle.model.proofs.Calls.{reply-accepted, after-done}
use Rattle.history.specs.History.{History, aged}
use Rattle.history.specs.Claim.{is_refused}
use Rattle.history.proofs.Table.{Part, due, flushed, stored}
use Rattle.history.proofs.Checking.{put-checks}
use Rattle.history.proofs.InStep.{InStep, by-table}
use Rattle.history.proofs.Keyed.{table_put, history_put, put-result, put-kept}
use Rattle.history.proofs.Positions.{IsPosition}
use Rattle.history.proofs.LineReading.{reads-put}
use Rattle.history.proofs.TextLines.{Line}
use Rattle.history.proofs.Replay.{Ends}
use Rattle.history.proofs.ReplayState.{PartAt, part-stored, part-flushed, due-early, KeyNext, next-same, next-older, next-cond, At}

module _ (t : ℕ) (values : ℕ → Option ℕ) (i q n : ℕ) (b : Areas) (h : History) (at : At h.geometry t values i q n b h)
    (sources : i ≤ h.geometry.kept) (room : n < capacity h.geometry)
    (k v : ℕ) (hk : k < 2 ^ 64) (position : IsPosition v) (own : partition_of h.geometry k ≡ t) (page : page_of h.geometry k ≡ q) (value : values k ≡ Some v) where
  abbrev g : Geometry
  g = h.geometry

  abbrev inv : InStep b h
  inv = at.in_step

  abbrev s : Part
  s = inv.table t

  early : (inv.table (partition_of g k)).flushes ≡ last_flush → ⊥
  early e =
      let same : s.flushes ≡ last_flush = rw own at e in
      omega (arith, at.part.few, (sizes g inv.shows.ok).kept-max)

  passed : checks b (put k v) ≡ None
  passed =
      put-checks inv k hk v
      ∙ rw (a-position v position.0, ne_eqb (inv.table (partition_of g k)).flushes last_flush early, and-false (due g k (inv.table (partition_of g k))))

  accepted : is_refused (reply b (put k v)) ≡ false
  accepted = rw (reply-accepted b (put k v) passed, put-result b h inv k hk v position.1)

  -- with a flush before it, the table has flushed less than i times
  fewer : due g k (inv.table (partition_of g k)) ≡ true → s.flushes < i
  fewer d = due-early g k v s page at.part room (rw own at d)

  -- the partition, its flushes and what is known of each key after it
  abbrev part_now : Bool → Part
  part_now d = stored g k v (cond d (flushed g s) s)

  abbrev flushes_now : Bool → ℕ
  flushes_now d = cond d (suc s.flushes) s.flushes

  table-now : (d : Bool) → table_put g inv.table k v d t ≡ part_now d
  table-now false = modify-at (partition_of g k) (stored g k v) inv.table t (sym own)
  table-now true = modify-at (partition_of g k) (stored g k v) _ t (sym own) ∙ ap (stored g k v) (modify-at (partition_of g k) (flushed g) inv.table t (sym own))

  part-now : (d : Bool) → due g k (inv.table (partition_of g k)) ≡ d → PartAt i q (suc n) (part_now d)
  part-now false d = part-stored g k v s page at.part
  part-now true d = part-flushed g k v s page (fewer d)

  flushes-now : (d : Bool) → (part_now d).flushes ≡ flushes_now d
  unfolding stored flushed
  flushes-now false = refl
  flushes-now true = refl

  kept-keys : (d : Bool) → due g k (inv.table (partition_of g k)) ≡ d → (j : ℕ)
      → KeyNext (flushes_now d) (values j) (h.keys j) ((cond d (aged (partition_of g k) h) h).keys j)
  kept-keys false d j = next-same s.flushes s.flushes (values j) (h.keys j) (omega arith) (at.keys j)
  kept-keys true d j = next-cond (suc s.flushes) (values j) (h.keys j) (eqb (partition_of g j) (partition_of g k)) _ _
      (next-older g.kept s.flushes (values j) (h.keys j) (omega (arith, fewer d)) (at.keys j))
      (next-same s.flushes (suc s.flushes) (values j) (h.keys j) (omega arith) (at.keys j))

  keys-now : (d : Bool) → due g k (inv.table (partition_of g k)) ≡ d → (j : ℕ) → KeyNext (flushes_now d) (values j) (h.keys j) ((history_put h k v d).keys j)
  keys-now d e j = elim (ℕ_discrete j k) [
    | yes same ↦ rw (same, eq-eqb k k refl) ((omega arith, value), λ known. refl)
    | no other ↦ rw (ne_eqb j k other) (kept-keys d e j)
  ]

  geometry-now : (d : Bool) → (history_put h k v d).geometry ≡ g
  geometry-now false = refl
  geometry-now true = refl

  ends-line : Ends (put_text k v) b h (At g t values i q (suc n)) (λ j. j ≡ k)
  ends-line = go (due g k (inv.table (partition_of g k))) refl
    where
      go : (d : Bool) → due g k (inv.table (partition_of g k)) ≡ d → Ends (put_text k v) b h (At g t values i q (suc n)) (λ j. j ≡ k)
      go d e = record {
        areas = after b (put k v);
        history = history_put h k v d;
        reads = reads-put k v hk position.1 b accepted;
        grows = λ j. (keys-now d e j).1;
        holds = rw (after-done b (put k v) passed _ (put-result b h inv k hk v position.1)) (record {
          in_step = by-table (put-kept b h inv k hk v position.1 passed d e);
          same_geometry = geometry-now d;
          part = rw (table-now d) (part-now d e);
          keys = λ j. rw (table-now d, flushes-now d) (keys-now d e j).0;
        });
        knows = λ j same. rw (eq-eqb j k same);
      }

-- the same where the geometry is g
pub ends-line-of : (g : Geometry) (t : ℕ) (values : ℕ → Option ℕ) (i q n : ℕ) (b : Areas) (h : History) → At g t values i q n b h
    → i ≤ g.kept → n < capacity g → (k v : ℕ) → Line g t q values k v → Ends (put_text k v) b h (At g t values i q (suc n)) (λ j. j ≡ k)
ends-line-of g t values i q n b h at sources room k v line = go at sources room line
  where
    go : At g t values i q n b h → i ≤ g.kept → n < capacity g → Line g t q values k v → Ends (put_text k v) b h (At g t values i q (suc n)) (λ j. j ≡ k)
    go = rw (← at.same_geometry) (λ at sources room line. ends-line t values i q n b h at sources room k v line.below line.position line.partition line.page line.value)
