-- A page is used where its count is not 0.
use Prim.Native.Nat.{ℕ}
use mathlib.Core.Bool.{Bool, true, false, not}
use mathlib.Core.List.{List}
use mathlib.Core.Path.{◌≡◌}
use borrow.Author.Tests.{eq-eqb, ne_eqb}
use lib.Dec.{eqb}
use Rattle.model.specs.declared.Geometry.{Geometry}
use Rattle.model.specs.Page.{count_of}
use Rattle.model.specs.Partition.{buffer_of}

abbrev pub used : Geometry → List ℕ → ℕ → Bool
used g p q = not (eqb (count_of (buffer_of g p q)) 0)

pub some-entry : (n : ℕ) → (n ≡ 0 → ⊥) → not (eqb n 0) ≡ true
some-entry n h = rw (ne_eqb n 0 h)

pub no-entry : (n : ℕ) → n ≡ 0 → not (eqb n 0) ≡ false
no-entry n h = rw (eq-eqb n 0 h)
