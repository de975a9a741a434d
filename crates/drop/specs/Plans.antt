-- What a drop does, from its checks and from the entries of the oldest live batch; and what it asks of a partition.
use Rattle.std.specs.Prelude.{ℕ, Result, ◌≤◌, false, List, ◌≡◌}
use Rattle.model.specs.declared.Geometry.{Geometry}
use Rattle.model.specs.Partition.{head_of, total_of, live_of}
use Rattle.model.specs.Refusals.{head_overfull}
use Rattle.model.specs.Drop.{oldest_entries, drop_checks}
use Rattle.model.specs.Answers.{Refusal}
use Rattle.answers.specs.Told.{unless}

unfoldable pub plan_for : Geometry → ℕ → List ℕ → List ℕ → Result ℕ Refusal
plan_for g t p f = unless (drop_checks g t p f) (oldest_entries g t p f)

-- the head is not overfull, some batch is live, and the total counts the entries that leave
pub record Droppable (g : Geometry) (less : ℕ) (p : List ℕ) : Type 0 where
  pub head : head_overfull g (head_of p) ≡ false
  pub some : 1 ≤ live_of p
  pub counted : less ≤ total_of p
