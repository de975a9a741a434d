-- What the partition is after a drop, from the numbers that the head held.
use Prim.Native.Nat.{ℕ}
use mathlib.Core.List.{List}
use mathlib.Core.Path.{◌≡◌, ◌∙◌}
use Rattle.model.specs.declared.Geometry.{Geometry}
use Rattle.model.specs.DeleteList.{unexpired}
use Rattle.model.specs.Partition.{Head, with_head, flushes_of, listed_of, live_of, list_of}
use Rattle.model.specs.Batch.{delisted}
use Rattle.model.specs.Drop.{head_dropped, dropped}

module _ (g : Geometry) (p : List ℕ) {n F L : ℕ} (en : n ≡ live_of p) (eF : F ≡ flushes_of p) (eL : L ≡ listed_of p) where
  pub stays : {s : ℕ} → s ≡ unexpired n F L (list_of g p) → s ≡ unexpired (live_of p) (flushes_of p) (listed_of p) (list_of g p)
  stays e = e ∙ rw (en, eF, eL)

  pub puts_back : (less : ℕ) {h : Head} {p' p'' : List ℕ} → p' ≡ delisted g n F L p → h ≡ head_dropped g less p → p'' ≡ with_head h p' → p'' ≡ dropped g less p
  unfolding dropped
  puts_back less e eh e'' = e'' ∙ rw (eh, e, en, eF, eL)
