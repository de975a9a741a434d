-- What a call does with which a batch goes, from its checks: a refusal, or the entries that leave.
use Rattle.std.specs.Prelude.{ℕ, List, None, Result}
use Rattle.model.specs.declared.Geometry.{Geometry}
use Rattle.model.specs.Batch.{failed_page, batch_entries, failed_head, leaving}
use Rattle.model.specs.Answers.{Refusal}
use Rattle.model.specs.Refusals.{refuse_head}
use Rattle.model.specs.Flush.{due_checks}
use Rattle.answers.specs.Told.{unless}

-- of batch n: 13 at the first head that is not the one expected, or its entries
unfoldable pub heads_of : Geometry → ℕ → ℕ → List ℕ → Result ℕ Refusal
heads_of g t n f = unless (refuse_head (failed_page g t f n) None) (batch_entries g t f n)

-- of the batch that a flush pushes out
unfoldable pub outgoing_of : Geometry → ℕ → List ℕ → List ℕ → Result ℕ Refusal
outgoing_of g t p f = unless (refuse_head (failed_head g t p f) None) (leaving g t p f)

unfoldable pub leaving_for : Geometry → ℕ → ℕ → List ℕ → List ℕ → Result ℕ Refusal
leaving_for g t more p f = unless (due_checks g t more p f) (leaving g t p f)
