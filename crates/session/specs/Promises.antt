-- What the session's functions promise, of areas, lines and places of any kind.
use Rattle.std.specs.Prelude.{ℕ, ◌+◌, ◌-◌, ◌≤◌, ◌<◌, cond, List, [], ◌∷◌, ◌≡◌, leb, length, take, Option, None, Some}
use Rattle.model.specs.Answers.{Areas}
use Rattle.model.specs.Session.{line_prints, line_leaves, lines_of, lines_print, lines_leave}
use Rattle.printer.specs.Puts.{Puts, room}
use Rattle.lines.specs.Lines.{Unended, ended_lines, Whole}
use Rattle.applying.specs.Applies.{Applies}

-- too little room, and nothing was done
pub record Untouched (a : Areas) (at : ℕ) (before later : List ℕ) (a' : Areas) : Type 0 where
  pub full : length before < at + room
  pub prints : later ≡ before
  pub leaves : a' ≡ a

-- a line is applied exactly where there is room
abbrev pub Applied : Option ℕ → List ℕ → Areas → ℕ → List ℕ → List ℕ → Areas → Type 0
Applied (Some next) line a at before later a' = (at + room ≤ length before) × Applies line a at before next later a'
Applied None line a at before later a' = Untouched a at before later a'

-- a run over the lines of a text: all that they print stands whole at the start of `later`, its length is n, and they leave a'
pub record Ran (text : List ℕ) (a : Areas) (before : List ℕ) (n : ℕ) (later : List ℕ) (a' : Areas) : Type 0 where
  pub fits : n ≤ length before
  pub prints : Puts (lines_print (lines_of text) a) 0 before n later
  pub leaves : a' ≡ lines_leave (lines_of text) a

-- The bytes of these lines that a run takes, where so many are free for answers: it takes a line, with the byte 10 that ends it, while there is room for one more answer.
unfoldable pub taken_of : List (List ℕ) → Areas → ℕ → ℕ
taken_of [] a free = 0
taken_of (l ∷ ls) a free = cond (leb room free) (length l + 1 + taken_of ls (line_leaves l a) (free - length (line_prints l a))) 0

-- a run takes just these bytes: whole lines, all of them unless the room ends
pub record Takes (taken : ℕ) (input : List ℕ) (a : Areas) (n : ℕ) (out : List ℕ) : Type 0 where
  pub exactly : taken ≡ taken_of (ended_lines input) a (length out)
  pub within : taken ≤ length input
  pub whole : Whole (take taken input)
  pub all : n + room ≤ length out → Unended taken input
