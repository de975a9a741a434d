-- "format writes the opening numbers, zero in the rest of the needed memory, and page and partition numbers in buffer pages. Flash and surplus bytes are untouched."
use Rattle.std.specs.Prelude.{ℕ, zero, suc, not, List, ltb, length, Option, None}
use Rattle.std.proofs.lemmas.List.Edits.{sets}
use Rattle.model.specs.Bytes.{zeros, within}
use Rattle.model.specs.Geometry.{allowed, partitions, stride, partition_at, buffer_at, memory_need, flash_need}
use Rattle.model.specs.Opening.{with_opening}
use Rattle.model.specs.Page.{emptied}
use Rattle.model.specs.Answers.{Areas, Refusal}
use Rattle.model.specs.Refusals.{refuse_if}
use Rattle.model.specs.declared.Geometry.{Geometry}

-- 1, 2, 3
unfoldable pub format_checks : Geometry → Areas → Option Refusal
format_checks g a =
    refuse_if (not (allowed g)) 1
    (refuse_if (ltb (length a.memory) (memory_need g)) 2
    (refuse_if (ltb (length a.flash) (flash_need g)) 3 None))

-- partition t with its first q buffer pages emptied
unfoldable pub emptied_pages : Geometry → ℕ → ℕ → List ℕ → List ℕ
emptied_pages g t zero p = p
emptied_pages g t (suc q) p = within (buffer_at g q) g.page (emptied q t) (emptied_pages g t q p)

-- memory with the buffers of the first t partitions emptied
unfoldable pub emptied_partitions : Geometry → ℕ → List ℕ → List ℕ
emptied_partitions g zero m = m
emptied_partitions g (suc t) m = within (partition_at g t) (stride g) (emptied_pages g t g.pages) (emptied_partitions g t m)

unfoldable pub formatted : Geometry → List ℕ → List ℕ
formatted g m = emptied_partitions g (partitions g) (with_opening g (sets m 0 (zeros (memory_need g))))
