-- What a flush does before it writes the batch: the slot's filter is made, and the list loses what expires. The filter lies behind the list, so what expires is what would of the partition as it was.
use Prim.Native.Nat.{ℕ, ◌+◌}
use mathlib.Core.List.{List}
use mathlib.Core.Path.{◌≡◌, ◌∙◌}
use native.Mathlib.Omega.{arith}
use Rattle.model.specs.declared.Geometry.{Geometry}
use Rattle.model.specs.Bytes.{within}
use Rattle.model.specs.Geometry.{filter_at, filter_size}
use Rattle.model.specs.DeleteList.{unexpired}
use Rattle.model.specs.Filter.{filter_for}
use Rattle.model.specs.Partition.{flushes_of, listed_of, list_of, buffer_of, slot}
use Rattle.model.specs.Batch.{delisted}
use Rattle.model.specs.Flush.{filtered}
use Rattle.model.proofs.Parts.{mid-within-out}
use Rattle.model.proofs.Sizes.{filter-from}
use Rattle.partition.specs.Ready.{Whole}
use Rattle.partition.proofs.Inside.{list_inside}

module _ (g : Geometry) (p : List ℕ) where
  pub filter-made : {j F : ℕ} {p' : List ℕ} → j ≡ slot g (F + 1) → F ≡ flushes_of p → p' ≡ within (filter_at g j) (filter_size g) (λ _. filter_for g (buffer_of g p)) p → p' ≡ filtered g p
  unfolding filtered
  filter-made ej eF e = e ∙ rw (ej, eF)

  list-kept : Whole g p → list_of g (filtered g p) ≡ list_of g p
  unfolding filtered
  list-kept w = mid-within-out _ _ _ p _ _ (list_inside g p w) (omega (arith, filter-from g (slot g (flushes_of p + 1))))

  module _ {p' : List ℕ} {F L : ℕ} (made : p' ≡ filtered g p) (eF : F ≡ flushes_of p) (eL : L ≡ listed_of p) where
    pub list-shortened : {p'' : List ℕ} → p'' ≡ delisted g g.kept F L p' → p'' ≡ delisted g g.kept (flushes_of p) (listed_of p) (filtered g p)
    list-shortened e = e ∙ rw (made, eF, eL)

    pub stay-as-were : Whole g p → {s : ℕ} → s ≡ unexpired g.kept F L (list_of g p') → s ≡ unexpired g.kept (flushes_of p) (listed_of p) (list_of g p)
    stay-as-were w e = e ∙ rw (made, eF, eL, list-kept w)
