-- What a card will carry, told before it is bought, from a geometry and a number of puts (02, job 7). No area is asked for, so this is no call of the list.
use Rattle.std.specs.Prelude.{ℕ, ◌+◌, ◌-◌, ◌*◌, ◌/◌, cond, Result, Ok, Err}
use Rattle.model.specs.Geometry.{allowed, capacity, memory_need, flash_need}
use Rattle.model.specs.declared.Geometry.{Geometry}
use Rattle.model.specs.declared.Card.{Card}

-- The most flushes that n puts cause on a fresh table: each has E puts of its own, which filled a page, and the put that causes it comes behind them. Of no puts it is 0, since 0 − 1 is 0 here.
unfoldable pub most_flushes : Geometry → ℕ → ℕ
most_flushes g n = (n - 1) / capacity g

-- The first put at which an earlier key can be lost: it causes flush K + 1, which pushes out the first batch.
unfoldable pub first_lost : Geometry → ℕ
first_lost g = (g.kept + 1) * capacity g + 1

-- the four figures
abbrev pub card : Geometry → ℕ → Card
card g n = record { memory = memory_need g; flash = flash_need g; flushes = most_flushes g n; first_lost = first_lost g }

-- Refusal 1, as in format.
unfoldable pub figured : Geometry → ℕ → Result Card ℕ
figured g n = cond (allowed g) (Ok (card g n)) (Err 1)
