-- What the running of a piece of input promises: what stands in the buffers and in both areas. What was written no contract can say.
use Rattle.std.specs.Prelude.{ℕ, zero, suc, ◌+◌, ◌≤◌, ◌<◌, List, ◌≡◌, length, take, Option, None, Some, Result, Ok, Err}
use Rattle.model.specs.Answers.{Areas}
use Rattle.model.specs.Session.{lines_of, lines_print, lines_leave}
use Rattle.lines.specs.Lines.{Unended, Whole}
use Rattle.session.specs.Promises.{Ran}
use Rattle.held.specs.declared.Rest.{Rest}

-- the lines up to `taken` are whole, and the areas are as these lines leave them
pub record Went (taken : ℕ) (text : List ℕ) (a a' : Areas) : Type 0 where
  pub within : taken ≤ length text
  pub whole : Whole (take taken text)
  pub leaves : a' ≡ lines_leave (lines_of (take taken text)) a

-- a write failed: whole lines at the start of the text were run, at least one
pub record WentPartly (text : List ℕ) (a a' : Areas) : Type 0 where
  pub taken : ℕ
  pub some : 0 < taken
  pub went : Went taken text a a'

-- all whole lines were run
abbrev pub WentOn : {E : Type 0} → Result ℕ E → List ℕ → Areas → Areas → Type 0
WentOn (Ok taken) text a a' = Went taken text a a' × Unended taken text
WentOn (Err e) text a a' = WentPartly text a a'

-- The text now ends at `end`: its whole lines were run and the rest is held, or a write failed.
abbrev pub RunsTo : {E : Type 0} → ℕ → Result (Option Rest) E → List ℕ → Areas → Areas → Type 0
RunsTo end (Ok (Some rest)) input a a' = (rest.end ≡ end) × Went rest.at (take end input) a a' × Unended rest.at (take end input)
RunsTo end (Ok None) input a a' = ⊥
RunsTo end (Err e) input a a' = WentPartly (take end input) a a'

-- the last line was run, and its answer stands whole at the start of the buffer for answers
abbrev pub RanLast : List ℕ → Areas → List ℕ → List ℕ → Areas → Type 0
RanLast line a before later a' = Ran line a before (length (lines_print (lines_of line) a)) later a'

-- what is made of a read behind the bytes held: nothing after a failure; at the end of input, what is held is the last line; bytes that came are run
abbrev pub MadeOf : {E : Type 0} → Result ℕ E → Result (Option Rest) E → ℕ → List ℕ → Areas → List ℕ → List ℕ → Areas → Type 0
MadeOf (Err e) r held input a before later a' = (r ≡ Err e) × (a' ≡ a)
MadeOf (Ok zero) r held input a before later a' = (r ≡ Ok None) × RanLast (take held input) a before later a'
MadeOf (Ok (suc n)) r held input a before later a' = RunsTo (held + suc n) r input a a'
