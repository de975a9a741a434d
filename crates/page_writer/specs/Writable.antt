-- What the writing of one page asks: what 2, 11, 3, 4 and 16 leave, and nothing more. What the page counts is not asked.
use Rattle.std.specs.Prelude.{ℕ, ◌+◌, ◌≤◌, ◌<◌, true, List, ◌≡◌, length}
use Rattle.model.specs.declared.Geometry.{Geometry}
use Rattle.model.specs.Geometry.{allowed, partitions, memory_need, flash_need}
use Rattle.model.specs.Partition.{partition, flushes_of}

-- areas long enough for an allowed geometry, a partition and a page of it, and the flush number after F: it has 32 bits where 16 does not refuse
pub record Writable (g : Geometry) (t q n : ℕ) (m f : List ℕ) : Type 0 where
  pub fine : allowed g ≡ true
  pub memory_fits : memory_need g ≤ length m
  pub flash_fits : flash_need g ≤ length f
  pub partition_below : t < partitions g
  pub page_below : q < g.pages
  pub number_next : n ≡ flushes_of (partition g t m) + 1
