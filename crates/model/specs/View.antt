-- "view shows one page as a part of the memory area or of the flash area, given partition, page and flush number (0 is the buffer)."
use Rattle.std.specs.Prelude.{ℕ, ◌+◌, Bool, true, false, cond, not, ◌&&◌, ◌||◌, List, eqb, ltb, Option, None}
use Rattle.model.specs.Geometry.{partitions, partition_at, buffer_at, slot_page_at}
use Rattle.model.specs.Page.{expected}
use Rattle.model.specs.Partition.{head_of, slot, is_live}
use Rattle.model.specs.Batch.{batch_page}
use Rattle.model.specs.Answers.{Refusal, Answer, shown, refused, in_memory, in_flash}
use Rattle.model.specs.Refusals.{refuse_if, head_overfull, page_overfull}
use Rattle.model.specs.declared.Geometry.{Geometry}

-- 4, 12, 17, for partition t with the bytes p
unfoldable pub view_checks : Geometry → ℕ → ℕ → ℕ → List ℕ → Option Refusal
view_checks g t q n p =
    refuse_if (not (ltb t (partitions g)) || not (ltb q g.pages)) 4
    (refuse_if (head_overfull g (head_of p)) 12
    (refuse_if (eqb n 0 && page_overfull g p q) 12
    (refuse_if (not (eqb n 0) && not (is_live (head_of p) n)) 17 None)))

-- the part that is shown
abbrev pub page_shown : Bool → Geometry → ℕ → ℕ → ℕ → List ℕ → Answer
page_shown true g t q n f = shown (in_memory (partition_at g t + buffer_at g q) g.page)
page_shown false g t q n f =
    cond (expected g t n q (batch_page g t f n q))
    (shown (in_flash (slot_page_at g t (slot g n) q) g.page))
    (refused 13 1)

unfoldable pub viewed : Geometry → ℕ → ℕ → ℕ → List ℕ → Answer
viewed g t q n f = page_shown (eqb n 0) g t q n f
