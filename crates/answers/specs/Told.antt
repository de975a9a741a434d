-- The paper's number and values for each case of an answer.
use Rattle.std.specs.Prelude.{ℕ, Option, None, Some, Result, Ok, Err}
use Rattle.model.specs.Answers as model
use Rattle.model.specs.Answers.{done, found, absent, shown, refused, buffer, batch, in_memory, in_flash}
use Rattle.answers.specs.declared.Reason.{Reason}
use Rattle.answers.specs.declared.Refusal.{Refusal}
use Rattle.answers.specs.declared.Place.{Place}
use Rattle.answers.specs.declared.Place.TheVariants.{Buffer, Batch}
use Rattle.answers.specs.declared.Tally.{Tally}
use Rattle.answers.specs.declared.Answer.{Answer}
use Rattle.answers.specs.declared.Viewed.{Viewed}

abbrev pub number : Reason → ℕ
number Reason.NotAllowed = 1
number Reason.MemoryShort = 2
number Reason.FlashShort = 3
number Reason.NoSuchPart = 4
number Reason.NoTable = 11
number Reason.Overfull = 12
number Reason.Unexpected = 13
number Reason.ListFull = 14
number Reason.BufferEmpty = 15
number Reason.LastFlush = 16
number Reason.NotLive = 17
number Reason.ZeroValue = 21
number Reason.TextShort = 22
number Reason.NothingLive = 23

-- a refusal that comes before any page is read
abbrev pub unread : Reason → Refusal
unread reason = record { reason = reason; reads = 0 }

-- the structs that the code hands about, as the definitions' records
abbrev pub as_refusal : Refusal → model.Refusal
as_refusal r = record { number = number r.reason; reads = r.reads }

abbrev pub as_tally : Tally → model.Tally
as_tally t = record { reads = t.reads; comparisons = t.comparisons }

-- a plan, or the refusal of the checks
abbrev pub told : {A : Type 0} → Result A Refusal → Result A model.Refusal
told (Ok x) = Ok x
told (Err r) = Err (as_refusal r)

-- the same, of checks that read no page
abbrev pub told_unread : {A : Type 0} → Result A Reason → Result A model.Refusal
told_unread (Ok x) = Ok x
told_unread (Err reason) = Err (as_refusal (unread reason))

-- what the checks say, as the definitions say it: a refusal, if there is one
abbrev pub refusal : {A : Type 0} → Result A Reason → Option model.Refusal
refusal (Ok x) = None
refusal (Err reason) = Some (as_refusal (unread reason))

-- the same, where no pages are told: only the number
abbrev pub numbered : {A : Type 0} → Result A Reason → Result A ℕ
numbered (Ok x) = Ok x
numbered (Err reason) = Err (number reason)

-- what is to be done, unless the checks refuse it
abbrev pub unless : {A : Type 0} → Option model.Refusal → A → Result A model.Refusal
unless (Some r) x = Err r
unless None x = Ok x

abbrev pub refusing : Refusal → model.Answer
refusing r = refused (number r.reason) r.reads

abbrev pub written : Result ℕ Refusal → model.Answer
written (Ok n) = done n
written (Err r) = refusing r

abbrev pub place : Place → model.Place
place Buffer = buffer
place (Batch n) = batch n

abbrev pub answered : Result Answer Refusal → model.Answer
answered (Ok (Answer.Found h)) = found h.value (as_tally h.tally) (place h.place)
answered (Ok (Answer.Absent t)) = absent (as_tally t)
answered (Err r) = refusing r

abbrev pub viewed : Result Viewed Refusal → model.Answer
viewed (Ok (Viewed.Memory at size)) = shown (in_memory at size)
viewed (Ok (Viewed.Flash at size)) = shown (in_flash at size)
viewed (Err r) = refusing r
