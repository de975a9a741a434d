-- What the call performs, from the plan and from what was done to the key's partition.
use Prim.Native.Nat.{ℕ, ◌<◌, ◌^◌}
use mathlib.Core.List.{List}
use mathlib.Core.Path.{◌≡◌, refl, sym, ◌∙◌}
use Rattle.std.specs.Prelude.{Option, None, Result, Ok, Err}
use Rattle.model.specs.declared.Geometry.{Geometry}
use Rattle.model.specs.Answers.{Refusal, done}
use Rattle.model.specs.Bytes.{within}
use Rattle.model.specs.Calls.{Call, checks}
use Rattle.model.specs.Del.{del_checks, unbuffered, listed_with, deleted}
use Rattle.model.specs.Geometry.{stride, partition_at}
use Rattle.model.specs.Keys.{partition_of, page_of}
use Rattle.model.specs.Page.{taken}
use Rattle.model.specs.Partition.{totalled, buffer_of, partition}
use Rattle.model.proofs.Parts.{within-id, within_same}
use Rattle.model.proofs.Sizes.{partition-of-lt}
use Rattle.model.proofs.Calls.{checks-del, result-del, effect-del}
use Rattle.answers.specs.declared.Reason.{Reason}
use Rattle.answers.specs.Told.{unread, as_refusal, refusing}
use Rattle.answers.specs.Performs.{areas, Performs}
use Rattle.answers.proofs.Performing as performing
use Rattle.partition.proofs.Lending.{partition-inside}
use Rattle.opening.specs.Opened.{IsTable}
use Rattle.del.specs.declared.Plan.{Plan}
use Rattle.del.specs.Plans.{plan_for, Listable}
use Rattle.del.proofs.Planning.{Means, plan-means}

module _ (g : Geometry) (m f : List ℕ) (table : IsTable g m f) (k : ℕ) where
  abbrev own : List ℕ
  own = partition g (partition_of g k) m

  checked : checks (areas m f) (Call.del k) ≡ del_checks g k own
  checked = checks-del (areas m f) g table.own table.opens k

  -- what the plan means for the key's partition
  meant : (plan : Result Plan Refusal) → plan ≡ plan_for g k own → Means g k own plan
  meant plan h = rw h (plan-means g k own)

  -- an accepted del that leaves m'
  deletes : (m' : List ℕ) → del_checks g k own ≡ None → m' ≡ within (partition_at g (partition_of g k)) (stride g) (deleted g k) m → Performs (Call.del k) m f (done 0) m' f
  deletes m' h e =
      performing.doing (Call.del k) m f 0 m' f (checked ∙ h) (result-del (areas m f) k)
      (effect-del (areas m f) g table.own k) e refl

  pub refuses : (reason : Reason) → Err (as_refusal (unread reason)) ≡ plan_for g k own → Performs (Call.del k) m f (refusing (unread reason)) m f
  refuses reason h = performing.refusing (Call.del k) m f (as_refusal (unread reason)) (checked ∙ meant (Err (as_refusal (unread reason))) h)

  pub does-nothing : k < 2 ^ 64 → Ok Plan.Nothing ≡ plan_for g k own → Performs (Call.del k) m f (done 0) m f
  does-nothing l h =
      let w = meant (Ok Plan.Nothing) h in
      let inside = partition-inside g m table.fine table.memory_fits (partition_of g k) (partition-of-lt g table.fine k l) in
      deletes m w.0 (sym (within-id _ _ (deleted g k) m inside w.1))

  pub can-remove : (y : Option ℕ) → Ok (Plan.Remove y) ≡ plan_for g k own → Listable g k y own
  can-remove y h = (meant (Ok (Plan.Remove y)) h).1

  pub removes : (y : Option ℕ) (m' : List ℕ) → Ok (Plan.Remove y) ≡ plan_for g k own
      → m' ≡ within (partition_at g (partition_of g k)) (stride g) (λ p. totalled 0 (taken k (buffer_of g p (page_of g k))) (listed_with y g k (unbuffered g k p))) m → Performs (Call.del k) m f (done 0) m' f
  removes y m' h e =
      let w = meant (Ok (Plan.Remove y)) h in
      deletes m' w.0 (e ∙ within_same _ _ (λ (p : List ℕ). totalled 0 (taken k (buffer_of g p (page_of g k))) (listed_with y g k (unbuffered g k p))) (deleted g k) m (sym w.2))
