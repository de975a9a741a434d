-- Where the part that a view hands out begins. An address is an allocation and an offset in it.
use Rattle.std.specs.Prelude.{ℕ, ◌+◌}
use Rattle.model.specs.Answers.{Areas, Stretch, in_memory, in_flash}
use Rattle.model.specs.Calls.{view, reply, part_shown}

-- a part of one of the areas, which begin at these addresses
abbrev pub address_in : ℕ × ℕ → ℕ × ℕ → Stretch → ℕ × ℕ
address_in memory flash (in_memory at n) = (memory.0, at + memory.1)
address_in memory flash (in_flash at n) = (flash.0, at + flash.1)

-- what a view shows begins here: a refused one shows an empty part of memory
unfoldable pub address_shown : ℕ × ℕ → ℕ × ℕ → Areas → ℕ → ℕ → ℕ → ℕ × ℕ
address_shown memory flash a t q n = address_in memory flash (part_shown (reply a (view t q n)))
