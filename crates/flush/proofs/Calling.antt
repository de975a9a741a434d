-- What the call performs, from what was decided and from what was done to the partition and to flash.
use Prim.Native.Nat.{ℕ, ◌≤◌, ◌<◌}
use mathlib.Core.List.{List}
use Rattle.std.specs.Prelude.{None, Ok, Err}
use mathlib.Core.Path.{◌≡◌, sym, ◌∙◌}
use native.Mathlib.Omega.{arith}
use lib.ListN.{get_or}
use Rattle.model.specs.declared.Geometry.{Geometry}
use Rattle.model.specs.Bytes.{within}
use Rattle.model.specs.Geometry.{partitions, stride, partition_at}
use Rattle.model.specs.Partition.{head_of, totalled, total_of, partition}
use Rattle.model.specs.Batch.{leaving}
use Rattle.model.specs.Answers.{done}
use Rattle.model.specs.Flush.{flush_checks, flushed, flush_in, with_batch}
use Rattle.model.specs.Calls.{Call, checks}
use Rattle.model.proofs.Calls.{checks-flush, result-flush, effect-flush}
use Rattle.model.proofs.Checks.{flush-accepted, due-accepted}
use Rattle.model.proofs.Heads.{HeadWords, total-in}
use Rattle.model.proofs.Parts.{within_same}
use Rattle.answers.specs.declared.Refusal.{Refusal}
use Rattle.answers.specs.Told.{as_refusal, refusing}
use Rattle.answers.specs.Performs.{areas, Performs}
use Rattle.answers.proofs.Performing as performing
use Rattle.opening.specs.Opened.{IsTable}
use Rattle.partition.specs.Ready.{Flushable}
use Rattle.partition.proofs.Flushing.{flushable}
use Rattle.partition.proofs.Lending.{partition-words}
use Rattle.outgoing.proofs.Deciding.{refused-by, passed-with}
use Rattle.flush.specs.Plans.{plan_for}

module _ (g : Geometry) (m f : List ℕ) (table : IsTable g m f) (t : ℕ) where
  abbrev at : ℕ
  at = partition_at g t

  abbrev own : List ℕ
  own = partition g t m

  checked : checks (areas m f) (Call.flush t) ≡ flush_checks g t own f
  checked = checks-flush (areas m f) g table.own table.opens t

  pub refuses : (r : Refusal) → Err (as_refusal r) ≡ plan_for g t own f → Performs (Call.flush t) m f (refusing r) m f
  unfolding plan_for
  refuses r h = performing.refusing (Call.flush t) m f (as_refusal r) (checked ∙ refused-by _ _ _ (sym h))

  -- ---- nothing refuses it, and so many entries leave
  module _ (below : t < partitions g) (bytes : (i : ℕ) → get_or m i 0 < 256) (less : ℕ) (h : Ok less ≡ plan_for g t own f) where
    passed : (flush_checks g t own f ≡ None) × (less ≡ leaving g t own f)
    unfolding plan_for
    passed = passed-with _ _ less (sym h)

    words : HeadWords (head_of own)
    words = partition-words g t m bytes

    pub can-flush : Flushable g t own
    can-flush =
        let w = flush-accepted g t own f passed.0 in
        flushable g t own words below w.1 w.2 (due-accepted g t 0 own f w.4).0

    -- the total has what leaves
    pub can-lower : less ≤ total_of own
    can-lower =
        let due = due-accepted g t 0 own f (flush-accepted g t own f passed.0).4 in
        omega (arith, passed.1, (total-in g (head_of own) 0 _ due.2).0)

    pub flushes : (m' f' : List ℕ) → m' ≡ within at (stride g) (λ p. totalled 0 less (flushed g t p)) m → f' ≡ with_batch g t own g.pages f
        → Performs (Call.flush t) m f (done g.pages) m' f'
    unfolding flush_in
    flushes m' f' e ef =
        let same = within_same at (stride g) (flush_in g t f) (λ (p : List ℕ). totalled 0 less (flushed g t p)) m (rw passed.1) in
        performing.doing (Call.flush t) m f g.pages m' f' (checked ∙ passed.0)
        (result-flush (areas m f) g table.own t) (effect-flush (areas m f) g table.own t) (e ∙ sym same) ef
