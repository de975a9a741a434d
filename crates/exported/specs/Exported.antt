-- What the C interface gives: one struct for the answers of all calls, and one for a card's figures.
use Rattle.std.specs.Prelude.{ℕ, ◌<◌, ◌^◌, Result, Ok, Err}
use Rattle.model.specs.Answers.{Place, buffer, batch, Stretch, in_memory, in_flash, Answer, done, found, absent, shown, refused}
use Rattle.model.specs.Calls.{Call, format, put, get, del, flush, view, count, text, drop}
use Rattle.model.specs.declared.Card.{Card}
use Rattle.answers.specs.declared.Refusal.{Refusal}
use Rattle.answers.specs.declared.Viewed.{Viewed}
use Rattle.exported.specs.declared.MxAnswer.{MxAnswer}
use Rattle.exported.specs.declared.MxCard.{MxCard}

-- status: 0 done, 1 found, 2 none, 3 refused
abbrev pub answer : ℕ → ℕ → ℕ → ℕ → ℕ → ℕ → MxAnswer
answer status number reads from value comparisons = record { status = status; number = number; reads = reads; batch = from; value = value; comparisons = comparisons }

-- 0 in the buffer, else the batch's number
abbrev pub batch_of : Place → ℕ
batch_of buffer = 0
batch_of (batch n) = n

-- a page of memory: no read; a page of flash: one
abbrev pub stretch : Stretch → MxAnswer
stretch (in_memory at size) = answer 0 size 0 0 at 0
stretch (in_flash at size) = answer 0 size 1 1 at 0

abbrev pub exported : Answer → MxAnswer
exported (done pages) = answer 0 pages 0 0 0 0
exported (found value cost place) = answer 1 0 cost.reads (batch_of place) value cost.comparisons
exported (absent cost) = answer 2 0 cost.reads 0 0 cost.comparisons
exported (refused number reads) = answer 3 number reads 0 0 0
exported (shown s) = stretch s

-- of a text: its length is a value
abbrev pub exported_text : Answer → MxAnswer
exported_text (done bytes) = answer 0 0 0 0 bytes 0
exported_text (found value cost place) = exported (found value cost place)
exported_text (absent cost) = exported (absent cost)
exported_text (refused number reads) = exported (refused number reads)
exported_text (shown s) = exported (shown s)

-- of a call's answer
abbrev pub exported_by : Call → Answer → MxAnswer
exported_by (format g) x = exported x
exported_by (put k v) x = exported x
exported_by (get k) x = exported x
exported_by (del k) x = exported x
exported_by (flush t) x = exported x
exported_by (view t q n) x = exported x
exported_by (count t) x = exported x
exported_by (text t room) x = exported_text x
exported_by (drop t) x = exported x

-- the bytes of a page are a 32-bit number
abbrev pub SizeFits : Result Viewed Refusal → Type 0
SizeFits (Ok (Viewed.Memory at size)) = size < 2 ^ 32
SizeFits (Ok (Viewed.Flash at size)) = size < 2 ^ 32
SizeFits (Err r) = Unit {0}

-- of a card: done with its figures, or refused
abbrev pub exported_card : Result Card ℕ → MxCard
exported_card (Ok c) = record { status = 0; number = 0; memory = c.memory; flash = c.flash; flushes = c.flushes; first_lost = c.first_lost }
exported_card (Err n) = record { status = 3; number = n; memory = 0; flash = 0; flushes = 0; first_lost = 0 }
