-- What a flush does, from its checks and from the entries that leave.
use Rattle.std.specs.Prelude.{ℕ, Result, List}
use Rattle.model.specs.declared.Geometry.{Geometry}
use Rattle.model.specs.Batch.{leaving}
use Rattle.model.specs.Flush.{flush_checks}
use Rattle.model.specs.Answers.{Refusal}
use Rattle.answers.specs.Told.{unless}

unfoldable pub plan_for : Geometry → ℕ → List ℕ → List ℕ → Result ℕ Refusal
plan_for g t p f = unless (flush_checks g t p f) (leaving g t p f)
