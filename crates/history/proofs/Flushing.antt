-- A flush of bytes that show a partition shows the flushed partition.
use Prim.Native.Nat.{ℕ, suc, ◌+◌, ◌^◌, ◌≤◌, ◌<◌}
use mathlib.Core.Bool.{Bool, true}
use mathlib.Core.Path.{◌≡◌, refl, ◌∙◌, ap, ap₂}
use mathlib.Core.List.{List}
use native.Mathlib.Omega.{arith}
use native.Mathlib.Decide.{ℕ_discrete}
use lib.ListN.{length}
use Rattle.model.specs.declared.Geometry.{Geometry}
use Rattle.model.specs.Geometry.{allowed, partitions, flash_need}
use Rattle.model.specs.Filter.{is_set, filter_for}
use Rattle.model.specs.Partition.{flushes_of, listed_of, list_of, buffer_of, slot, slot_bits}
use Rattle.model.specs.Flush.{flushed, with_batch}
use Rattle.model.specs.Batch.{batch_page}
use Rattle.model.proofs.Sizes.{sizes, slot_lt}
use Rattle.model.proofs.Tables.{Entry, strike, has_bit}
use Rattle.model.proofs.Passing.{bits-same}
use Rattle.model.proofs.FilterBits.{set-filter_for}
use Rattle.model.proofs.Entries.{flush-numbered}
use Rattle.model.proofs.ListEntries.{list_entries, entries-expired}
use Rattle.model.proofs.Heads.{words-after, flushes-after, listed-after, live-after}
use Rattle.model.proofs.Partitions.{modify, modify-at, modify-off}
use Rattle.model.proofs.PartitionsFlash.{slot_apart, batch-out, batch-page}
use Rattle.model.proofs.PartitionsCalls.{list-long, page-long, laid-flushed}
use Rattle.history.proofs.Table.{Part, Live, expires, live_after, flushed as flushed_part}
use Rattle.history.proofs.Pages.{shows-numbered, shows-emptied}
use Rattle.history.proofs.Shows.{ShowsBatchPage, same-batch-page, ShowsPart, shows-laid, list_count}

module _ (g : Geometry) (ok : allowed g ≡ true) (t : ℕ) (below : t < partitions g) (p f : List ℕ) (s : Part)
    (shows : ShowsPart g t p f s) (fits : length s.list ≤ g.list) (flash_fits : flash_need g ≤ length f) (more : flushes_of p + 1 < 2 ^ 32) where
  -- the filters' bits, with those of the new batch in its slot
  abbrev bits : ℕ → ℕ → Bool
  bits = modify (slot g (flushes_of p + 1)) (λ _. is_set (filter_for g (buffer_of g p))) (slot_bits g p)

  -- the new batch: its pages, and its bits
  new-page : (q : ℕ) → q < g.pages → ShowsBatchPage g t (flushes_of p + 1) q (batch_page g t (with_batch g t p g.pages f) (flushes_of p + 1) q) (s.buffer q)
  new-page q l =
      same-batch-page (batch-page g ok t below p f flash_fits shows.long g.pages q (omega arith) l) refl
      (record {
        page = shows-numbered (shows.buffer q l) (flushes_of p + 1);
        flush = flush-numbered (flushes_of p + 1) (buffer_of g p q) more (omega (arith, page-long g ok p shows.long q l, (sizes g ok).page-min));
      })

  new-bits : (b : ℕ) → bits (slot g (flushes_of p + 1)) b ≡ has_bit g s.buffer b
  new-bits b =
      ap (λ (x : ℕ → Bool). x b) (modify-at (slot g (flushes_of p + 1)) _ _ _ refl)
      ∙ set-filter_for g ok b (buffer_of g p)
      ∙ bits-same g _ s.buffer (λ q m. (shows.buffer q m).entries) b

  -- a batch that stays live was live, and has a slot of its own
  module _ (n : ℕ) (live : Live (flushed_part g s) n) (old : n ≡ suc s.flushes → ⊥) where
    was-live : Live s n
    unfolding flushed_part
    was-live = record { first = live.first; flushed = omega (arith, live.flushed); near = omega (arith, live.near) }

    other-slot : slot g n ≡ slot g (flushes_of p + 1) → ⊥
    unfolding flushed_part
    other-slot = slot_apart g (flushes_of p) n live.first (omega (arith, shows.flushes, was-live.flushed)) (omega (arith, shows.flushes, live.near))

    old-page : (q : ℕ) → q < g.pages → batch_page g t (with_batch g t p g.pages f) n q ≡ batch_page g t f n q
    old-page q l = batch-out g ok t below p f flash_fits g.pages t (slot g n) q (omega arith) below (slot_lt g ok n) l (λ e. other-slot)

    old-bits : (b : ℕ) → b < g.bits → bits (slot g n) b ≡ has_bit g (s.batch n) b
    old-bits b l = ap (λ (x : ℕ → Bool). x b) (modify-off (slot g (flushes_of p + 1)) _ _ _ other-slot) ∙ shows.filter n b was-live l

  newest : (n : ℕ) → n ≡ suc s.flushes → n ≡ flushes_of p + 1
  newest n e = omega (arith, shows.flushes)

  pub shows-flushed : ShowsPart g t (flushed g t p) (with_batch g t p g.pages f) (flushed_part g s)
  unfolding flushed_part
  shows-flushed = shows-laid ok (laid-flushed g ok p shows.long shows.words t more)
      (words-after g p shows.words more (omega (arith, (sizes g ok).kept-max)))
      (flushes-after g p ∙ omega (arith, shows.flushes))
      (live-after g p ∙ ap (live_after g.kept) shows.live)
      (ap₂ list_entries (listed-after g p) refl
      ∙ entries-expired (listed_of p) (list_of g p) (omega (arith, fits, list_count shows, list-long g ok p shows.long)) g.kept (flushes_of p)
      ∙ ap₂ (λ (F : ℕ) (l : List Entry). strike (expires g.kept F) l) shows.flushes shows.list)
      (λ q l. shows-emptied g ok t q (buffer_of g p q) (omega (arith, (sizes g ok).partitions-max)) (omega (arith, (sizes g ok).pages-max)) (page-long g ok p shows.long q l))
      (λ n live q l. elim (ℕ_discrete n (suc s.flushes)) [
        | yes e ↦ same-batch-page refl
            (ap (λ (x : ℕ → List Entry). x q) (modify-at (suc s.flushes) (λ old. s.buffer) s.batch n e))
            (rw (newest n e) (new-page q l))
        | no e ↦ same-batch-page (old-page n live e q l)
            (ap (λ (x : ℕ → List Entry). x q) (modify-off (suc s.flushes) (λ old. s.buffer) s.batch n e))
            (shows.batch n (was-live n live e) q l)
      ])
      (λ n b live l. elim (ℕ_discrete n (suc s.flushes)) [
        | yes e ↦ rw (modify-at (suc s.flushes) (λ old. s.buffer) s.batch n e, newest n e) (new-bits b)
        | no e ↦ rw (modify-off (suc s.flushes) (λ old. s.buffer) s.batch n e) (old-bits n live e b l)
      ])
