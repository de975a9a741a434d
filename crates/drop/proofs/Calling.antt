-- What the call performs, from what was decided and from what was done to the partition.
use Prim.Native.Nat.{ℕ}
use mathlib.Core.List.{List}
use Rattle.std.specs.Prelude.{None, Ok, Err}
use mathlib.Core.Path.{◌≡◌, refl, sym, ◌∙◌}
use native.Mathlib.Omega.{arith}
use Rattle.model.specs.declared.Geometry.{Geometry}
use Rattle.model.specs.Bytes.{within}
use Rattle.model.specs.Geometry.{stride, partition_at}
use Rattle.model.specs.Partition.{head_of, partition}
use Rattle.model.specs.Answers.{done}
use Rattle.model.specs.Drop.{oldest_entries, drop_checks, dropped, drop_in}
use Rattle.model.specs.Calls.{Call, checks}
use Rattle.model.proofs.Calls.{checks-drop, result-drop, effect-drop}
use Rattle.model.proofs.Checks.{drop-accepted}
use Rattle.model.proofs.Heads.{total-in}
use Rattle.model.proofs.Parts.{within_same}
use Rattle.model.proofs.Tests.{numbers}
use Rattle.answers.specs.declared.Refusal.{Refusal}
use Rattle.answers.specs.Told.{as_refusal, refusing}
use Rattle.answers.specs.Performs.{areas, Performs}
use Rattle.answers.proofs.Performing as performing
use Rattle.opening.specs.Opened.{IsTable}
use Rattle.outgoing.proofs.Deciding.{refused-by, passed-with}
use Rattle.drop.specs.Plans.{plan_for, Droppable}

module _ (g : Geometry) (m f : List ℕ) (table : IsTable g m f) (t : ℕ) where
  abbrev own : List ℕ
  own = partition g t m

  checked : checks (areas m f) (Call.drop t) ≡ drop_checks g t own f
  checked = checks-drop (areas m f) g table.own table.opens t

  pub refuses : (r : Refusal) → Err (as_refusal r) ≡ plan_for g t own f → Performs (Call.drop t) m f (refusing r) m f
  unfolding plan_for
  refuses r h = performing.refusing (Call.drop t) m f (as_refusal r) (checked ∙ refused-by _ _ _ (sym h))

  -- ---- nothing refuses it, and so many entries leave
  module _ (less : ℕ) (h : Ok less ≡ plan_for g t own f) where
    passed : (drop_checks g t own f ≡ None) × (less ≡ oldest_entries g t own f)
    unfolding plan_for
    passed = passed-with _ _ less (sym h)

    pub can-drop : Droppable g less own
    can-drop =
        let w = drop-accepted g t own f passed.0 in
        record { head = w.1; some = omega (numbers, w.2); counted = omega (arith, passed.1, (total-in g (head_of own) 0 _ w.3).0) }

    pub drops : (m' : List ℕ) → m' ≡ within (partition_at g t) (stride g) (dropped g less) m → Performs (Call.drop t) m f (done 0) m' f
    unfolding drop_in
    drops m' e =
        let same = within_same (partition_at g t) (stride g) (drop_in g t f) (dropped g less) m (rw passed.1) in
        performing.doing (Call.drop t) m f 0 m' f (checked ∙ passed.0) (result-drop (areas m f) t) (effect-drop (areas m f) g table.own t) (e ∙ sym same) refl
