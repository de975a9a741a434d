-- A partition that is changed where it lies in memory: what lies there then, and that a change behind a change is one.
use Prim.Native.Nat.{ℕ, ◌≤◌, ◌<◌}
use mathlib.Core.Bool.{true}
use mathlib.Core.List.{List}
use mathlib.Core.Path.{◌≡◌, ◌∙◌, ap}
use lib.ListN.{length}
use Rattle.model.specs.declared.Geometry.{Geometry}
use Rattle.model.specs.Bytes.{within}
use Rattle.model.specs.Geometry.{allowed, partitions, stride, partition_at, memory_need}
use Rattle.model.specs.Partition.{partition}
use Rattle.model.proofs.Parts.{length-within, mid-within, within-twice}
use Rattle.partition.proofs.Lending.{partition-inside, partition-whole}

-- the change f, which keeps the partition's length
module _ (g : Geometry) (m : List ℕ) (fine : allowed g ≡ true) (fits : memory_need g ≤ length m) (t : ℕ) (below : t < partitions g) (f : List ℕ → List ℕ) (keeps : (p : List ℕ) → length (f p) ≡ length p) {m₁ : List ℕ} (e : m₁ ≡ within (partition_at g t) (stride g) f m) where
  long : length (f (partition g t m)) ≡ stride g
  long = keeps (partition g t m) ∙ (partition-whole g m fine fits t below).long

  pub changed-there : partition g t m₁ ≡ f (partition g t m)
  changed-there = ap (partition g t) e ∙ mid-within (partition_at g t) (stride g) f m (partition-inside g m fine fits t below) long

  pub changed-fits : memory_need g ≤ length m₁
  changed-fits = rw e (rw length-within fits)

  pub changed-again : (h : List ℕ → List ℕ) → ((p : List ℕ) → length (h p) ≡ length p) → {m₂ : List ℕ} → m₂ ≡ within (partition_at g t) (stride g) h m₁ → m₂ ≡ within (partition_at g t) (stride g) (λ p. h (f p)) m
  changed-again h keeps' l = l ∙ ap (within (partition_at g t) (stride g) h) e ∙ within-twice (partition_at g t) (stride g) f h m (partition-inside g m fine fits t below) long (keeps' (f (partition g t m)) ∙ long)
