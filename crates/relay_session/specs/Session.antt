-- What the whole program promises. What was read and what was written no contract can say; what stands in both areas is said here.
use Rattle.std.specs.Prelude.{ℕ, List, ◌≡◌}
use Rattle.model.specs.Answers.{Areas}
use Rattle.model.specs.Session.{lines_of, lines_leave}

-- The areas are as the session of some text leaves them. It is what was read or, where a read or a write failed, the lines that were run until then; but no contract can tell it from another text.
pub record IsSession (a a' : Areas) : Type 0 where
  pub text : List ℕ
  pub leaves : a' ≡ lines_leave (lines_of text) a
