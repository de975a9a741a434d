-- Document 02: "The bench wants a partition's entries, buffer and live batches together, from its head alone."
use Rattle.std.specs.Prelude.{ℕ, not, List, ltb, Option, None}
use Rattle.model.specs.Geometry.{partitions}
use Rattle.model.specs.Partition.{head_of}
use Rattle.model.specs.Answers.{Refusal}
use Rattle.model.specs.Refusals.{refuse_if, head_overfull}
use Rattle.model.specs.declared.Geometry.{Geometry}

-- 4, 12, for partition t with the bytes p
unfoldable pub count_checks : Geometry → ℕ → List ℕ → Option Refusal
count_checks g t p = refuse_if (not (ltb t (partitions g))) 4 (refuse_if (head_overfull g (head_of p)) 12 None)
