-- What stands in the buffer between two reads.
use Rattle.std.specs.Prelude.{ℕ, ◌≤◌, List, ◌≡◌, length, take, drop, Result, Ok, Err}
use Rattle.lines.specs.Lines.{Unended, longest}
use Rattle.held.specs.declared.Rest.{Rest}

-- an unfinished line stands in the buffer
pub record Held (rest : Rest) (input : List ℕ) : Type 0 where
  pub begins : rest.at ≤ rest.end
  pub within : rest.end ≤ length input
  pub unended : Unended rest.at (take rest.end input)

abbrev pub held_bytes : Rest → List ℕ → List ℕ
held_bytes rest input = drop rest.at (take rest.end input)

-- it stands at the start, in n bytes: of a line longer than any form, its beginning
pub record AtStart (n : ℕ) (rest : Rest) (before later : List ℕ) : Type 0 where
  pub within : n ≤ length later
  pub stands : take n later ≡ take longest (held_bytes rest before)

-- no more bytes came than there was room for
abbrev pub Within : {E : Type 0} → Result ℕ E → ℕ → Type 0
Within (Ok n) most = n ≤ most
Within (Err e) most = Unit {0}
