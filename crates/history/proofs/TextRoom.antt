-- A partition's text goes through the sources whose pages a count tells, from the oldest to the buffer, and has at most 48 bytes for each of their entries.
use Prim.Native.Nat.{ℕ, ◌+◌, ◌-◌, ◌*◌, ◌≤◌, ◌<◌}
use mathlib.Core.Path.{◌≡◌, ◌∙◌, sym, ap}
use mathlib.Core.List.{List}
use native.Mathlib.Omega.{arith}
use lib.ListN.{length}
use Rattle.model.specs.declared.Geometry.{Geometry}
use Rattle.model.specs.Partition.{head_of, flushes_of, live_of}
use Rattle.model.specs.Batch.{sum, entries_of, batch_entries}
use Rattle.model.specs.Answers.{Place}
use Rattle.model.specs.PartitionText.{live_batch, source, source_page, partition_text}
use Rattle.model.proofs.Sums.{sum_same, sum-reversed, sum-next}
use Rattle.model.proofs.Joining.{text-short}
use Rattle.model.proofs.Answering.{source-batch, source-buffer}
use Rattle.history.specs.Claim.{entries_held}

module _ (g : Geometry) (t : ℕ) (p f : List ℕ) (flushed : live_of p ≤ flushes_of p) where
  -- the entries of a source
  abbrev source_entries : Place → ℕ
  source_entries at = entries_of (source_page g t p f at) g.pages

  -- the live batches, oldest first and youngest first
  youngest-first : (i : ℕ) → i < live_of p → live_batch (head_of p) (live_of p - 1 - i) ≡ flushes_of p - i
  youngest-first i l = omega arith

  batches : sum (live_of p) (λ i. source_entries (source (head_of p) i)) ≡ sum (live_of p) (λ i. batch_entries g t f (flushes_of p - i))
  batches =
      sum_same (live_of p) (λ i. batch_entries g t f (live_batch (head_of p) i)) (λ i. source_entries (source (head_of p) i)) (λ i l. ap source_entries (source-batch (head_of p) i l))
      ∙ sum-reversed (live_of p) (λ i. batch_entries g t f (live_batch (head_of p) i))
      ∙ sum_same (live_of p) (λ i. batch_entries g t f (flushes_of p - i)) (λ i. batch_entries g t f (live_batch (head_of p) (live_of p - 1 - i))) (λ i l. ap (batch_entries g t f) (youngest-first i l))

  held : sum (live_of p + 1) (λ i. source_entries (source (head_of p) i)) ≡ entries_held g t p f
  unfolding entries_held
  held = omega (arith, sum-next (live_of p) (λ i. source_entries (source (head_of p) i)), batches, ap source_entries (source-buffer (head_of p) (live_of p) (omega arith)))

  pub text-room : length (partition_text g t p f) ≤ 48 * entries_held g t p f
  text-room = rw (sym held) (text-short g t p f)
