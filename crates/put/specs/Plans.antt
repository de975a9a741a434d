-- What a put does, from its checks, from whether a flush is due and from the entries that leave.
use Rattle.std.specs.Prelude.{ℕ, Bool, true, false, List, Option, None, Some, Result, Ok, Err}
use Rattle.model.specs.declared.Geometry.{Geometry}
use Rattle.model.specs.Keys.{partition_of}
use Rattle.model.specs.Partition.{head_of}
use Rattle.model.specs.Batch.{leaving}
use Rattle.model.specs.Answers.{Refusal}
use Rattle.model.specs.Refusals.{refuse_if, total_out}
use Rattle.model.specs.Flush.{due_checks}
use Rattle.model.specs.Put.{due, appends, room_checks, put_checks}
use Rattle.put.specs.declared.Plan.{Plan}
use Rattle.put.specs.declared.Plan.TheVariants.{Store, Flush}

abbrev pub plan_with : Option Refusal → Bool → ℕ → Result Plan Refusal
plan_with (Some r) flushes less = Err r
plan_with None false less = Ok Store
plan_with None true less = Ok (Flush less)

-- where no flush is due, and where one is
unfoldable pub plan_store : Geometry → ℕ → List ℕ → Result Plan Refusal
plan_store g k p = plan_with (refuse_if (total_out g (appends g k p) 0 (head_of p)) 12 None) false 0

unfoldable pub plan_flush : Geometry → ℕ → List ℕ → List ℕ → Result Plan Refusal
plan_flush g k p f = plan_with (due_checks g (partition_of g k) 1 p f) true (leaving g (partition_of g k) p f)

-- for a key, whatever the value
unfoldable pub plan_room : Geometry → ℕ → List ℕ → List ℕ → Result Plan Refusal
plan_room g k p f = plan_with (room_checks g k p f) (due g k p) (leaving g (partition_of g k) p f)

-- for a key and a value
unfoldable pub plan_for : Geometry → ℕ → ℕ → List ℕ → List ℕ → Result Plan Refusal
plan_for g k v p f = plan_with (put_checks g k v p f) (due g k p) (leaving g (partition_of g k) p f)
