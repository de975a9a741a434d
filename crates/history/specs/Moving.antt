-- A partition moved by its text, beside demand 3.
-- Document 02: "From a table that calls have made since a format, the text, read by the session program's rules into a fresh table of the same geometry, gives every key of that partition the same value or none as before."
use Rattle.std.specs.Prelude.{ℕ, ◌*◌, ◌^◌, ◌≤◌, ◌<◌, false, ◌≡◌, List, [], ◌∷◌, length, Option, None, Some}
use Rattle.model.specs.Geometry.{partitions}
use Rattle.model.specs.Keys.{partition_of}
use Rattle.model.specs.Answers.{Areas, done}
use Rattle.model.specs.Calls.{Call, format, get, text, geometry_in, partition_in, text_in, reply, after}
use Rattle.model.specs.Session.{call_of, line_leaves, lines_of, lines_leave}
use Rattle.history.specs.History.{History}
use Rattle.history.specs.Claim.{is_refused, said, FromFormat, entries_held}

-- a line that is not `(bad)`, and whose call is not refused
abbrev pub Taken : Option Call → Areas → Type 0
Taken None a = ⊥
Taken (Some c) a = is_refused (reply a c) ≡ false

-- each line of these, read one after the other
abbrev pub AllTaken : List (List ℕ) → Areas → Type 0
AllTaken [] a = Unit {0}
AllTaken (l ∷ ls) a = Taken (call_of l) a × AllTaken ls (line_leaves l a)

-- the text of partition t of a, read line by line into the table b
pub record Moved (a b : Areas) (t : ℕ) : Type 0 where
  pub taken : AllTaken (lines_of (text_in a t)) b
  pub same : (k : ℕ) → k < 2 ^ 64 → partition_of (geometry_in a) k ≡ t
      → said (reply (lines_leave (lines_of (text_in a t)) b) (get k)) ≡ said (reply a (get k))

-- A text of partition t has at most 48 bytes for each entry that a count tells, is accepted where there is room for it, and moves the partition into every fresh table of the same geometry, on areas of any content.
pub record Moves (a : Areas) (t : ℕ) : Type 0 where
  pub short : length (text_in a t) ≤ 48 * entries_held (geometry_in a) t (partition_in a t) a.flash
  pub told : (room : ℕ) → length (text_in a t) ≤ room → reply a (text t room) ≡ done (length (text_in a t))
  pub moved : (b : Areas) → is_refused (reply b (format (geometry_in a))) ≡ false → Moved a (after b (format (geometry_in a))) t

abbrev pub AllMove : Areas → History → Type 0
AllMove a h = (t : ℕ) → t < partitions h.geometry → Moves a t

unfoldable pub TextMoves : Type 0
TextMoves = FromFormat AllMove
