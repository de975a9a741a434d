-- "Refusals that come from the input", "Refusals that come from the state": those that more than one call checks.
-- Each call's list of checks stands with the call. The 13 of get and view is found as pages are read, and stands with the answers.
use Rattle.std.specs.Prelude.{ℕ, ◌+◌, ◌-◌, min, Bool, true, false, not, ◌||◌, List, eqb, ltb, length, Option, None, Some}
use Rattle.model.specs.Search.{any_from}
use Rattle.model.specs.Geometry.{allowed, capacity, most_entries, memory_need, flash_need}
use Rattle.model.specs.Opening.{opening_size, geometry_of, eighth}
use Rattle.model.specs.Keys.{page_of}
use Rattle.model.specs.Page.{count_of}
use Rattle.model.specs.Partition.{Head, head_of, buffer_of}
use Rattle.model.specs.Answers.{Areas, Refusal, unread}
use Rattle.model.specs.declared.Geometry.{Geometry}

-- the refusal n where its condition holds, otherwise what the later checks say
abbrev pub refuse_if : Bool → ℕ → Option Refusal → Option Refusal
refuse_if true n later = Some (unread n)
refuse_if false n later = later

-- 13 where the head of page q, read after those before it, is not the one expected; it counts the heads read, with the failed one
abbrev pub refuse_head : Option ℕ → Option Refusal → Option Refusal
refuse_head (Some q) later = Some (record { number = 13; reads = q + 1 })
refuse_head None later = later

-- 2 (below 32), 11, 2, 3: every call but format
unfoldable pub unopened : Areas → Option Refusal → Option Refusal
unopened a later =
    refuse_if (ltb (length a.memory) opening_size) 2
    (refuse_if (not (allowed (geometry_of a.memory)) || not (eqb (eighth a.memory) 0)) 11
    (refuse_if (ltb (length a.memory) (memory_need (geometry_of a.memory))) 2
    (refuse_if (ltb (length a.flash) (flash_need (geometry_of a.memory))) 3 later)))

-- 12: L above D, a total above (K + 1) × Q × E, or a live number above the lesser of K and F
unfoldable pub head_overfull : Geometry → Head → Bool
head_overfull g h = ltb g.list h.listed || ltb (most_entries g) h.total || ltb (min g.kept h.flushes) h.live

-- 12: buffer page q counts above E
unfoldable pub page_overfull : Geometry → List ℕ → ℕ → Bool
page_overfull g p q = ltb (capacity g) (count_of (buffer_of g p q))

-- 12, for a call with a key: put, get, del
unfoldable pub key_overfull : Geometry → ℕ → List ℕ → Bool
key_overfull g k p = head_overfull g (head_of p) || page_overfull g p (page_of g k)

-- 12: some buffer page does
unfoldable pub some_page_overfull : Geometry → List ℕ → Bool
some_page_overfull g p = any_from g.pages 0 (page_overfull g p)

-- 12: with so many entries more and so many less the call would end with a total below 0, or past (K + 1) × Q × E
unfoldable pub total_out : Geometry → ℕ → ℕ → Head → Bool
total_out g more less h = ltb (h.total + more) less || ltb (most_entries g) (h.total + more - less)

-- 16: no flush number is left
abbrev pub last_flush : ℕ
last_flush = 4294967295
