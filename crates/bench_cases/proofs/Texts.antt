-- An answer's text has at least the byte 10 that ends it, and at most 72 bytes.
use Prim.Native.Nat.{ℕ, ◌≤◌}
use native.Mathlib.Omega.{arith}
use Rattle.std.specs.Prelude.{Result, Ok, Err}
use lib.ListN.{length, length-append}
use Rattle.model.specs.Session.{answer_text}
use Rattle.answers.specs.declared.Refusal.{Refusal}
use Rattle.answers.specs.declared.Answer.{Answer}
use Rattle.answers.specs.Told.{written, answered}
use Rattle.model.proofs.Sessions.{length-answer}

abbrev OneTo72 : ℕ → Type 0
OneTo72 n = (1 ≤ n) × (n ≤ 72)

pub written-length : (r : Result ℕ Refusal) → OneTo72 (length (answer_text (written r)))
written-length r = (some r, length-answer (written r))
  where
    some : (r : Result ℕ Refusal) → 1 ≤ length (answer_text (written r))
    some (Ok n) = unfold answer_text in simp length-append (omega arith)
    some (Err r) = unfold answer_text in simp length-append (omega arith)

pub answered-length : (r : Result Answer Refusal) → OneTo72 (length (answer_text (answered r)))
answered-length r = (some r, length-answer (answered r))
  where
    some : (r : Result Answer Refusal) → 1 ≤ length (answer_text (answered r))
    some (Ok (Answer.Found h)) = unfold answer_text in simp length-append (omega arith)
    some (Ok (Answer.Absent t)) = unfold answer_text in simp length-append (omega arith)
    some (Err r) = unfold answer_text in simp length-append (omega arith)
