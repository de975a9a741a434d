-- The slots of a table's batches, from the youngest down: each is that of the batch after the next one.
use Prim.Native.Nat.{ℕ, ◌+◌, ◌-◌, ◌%◌, ◌<◌}
use mathlib.Core.Path.{◌≡◌, ap}
use native.Mathlib.Omega.{arith}
use Rattle.model.specs.declared.Geometry.{Geometry}
use Rattle.model.specs.Partition.{slot}

module _ (g : Geometry) (n : ℕ) where
  pub slot-start : n % g.kept ≡ slot g (n - 0 + 1)
  slot-start = ap (λ (m : ℕ). m % g.kept) (omega arith)

  pub slot-next : (age : ℕ) → age < n → slot g (n - age) ≡ slot g (n - (age + 1) + 1)
  slot-next age l = ap (λ (m : ℕ). m % g.kept) (omega arith)
