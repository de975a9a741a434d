-- A table without bytes: what each partition holds, and what a flush, a drop, a put and a del make of it.
use Prim.Native.Nat.{ℕ, zero, suc, ◌+◌, ◌-◌, ◌≤◌, ◌<◌, min}
use mathlib.Core.Bool.{Bool, true, false, cond, not, ◌&&◌}
use mathlib.Core.List.{List, [], ◌∷◌, ◌++◌}
use lib.Dec.{eqb}
use lib.ListN.{length}
use Rattle.model.specs.declared.Geometry.{Geometry}
use Rattle.model.specs.Search.{is_some, any_from}
use Rattle.model.specs.Geometry.{capacity}
use Rattle.model.specs.Keys.{page_of}
use Rattle.model.proofs.Tables.{Entry, find, store, erase, strike, passes_in}
use Rattle.model.proofs.Partitions.{modify}

-- As many of the latest batches are live as the live number says. The list holds keys with stamps. Batches go by number, and each keeps its pages.
pub record Part : Type 0 where
  pub flushes : ℕ
  pub live : ℕ
  pub list : List Entry
  pub buffer : ℕ → List Entry
  pub batch : ℕ → ℕ → List Entry

-- batch n is live after F flushes: it goes by the two numbers, so that a change of list or buffer leaves it
pub record LiveAt (F live n : ℕ) : Type 0 where
  pub first : 1 ≤ n
  pub flushed : n ≤ F
  pub near : F < n + live

abbrev pub Live : Part → ℕ → Type 0
Live p n = LiveAt p.flushes p.live n

abbrev pub nothing : ℕ → List Entry
nothing q = []

abbrev pub empty : Part
empty = record { flushes = 0; live = 0; list = []; buffer = nothing; batch = λ n. nothing }

-- another list, and another buffer
abbrev pub remade : Part → List Entry → (ℕ → List Entry) → Part
remade p l b = record { flushes = p.flushes; live = p.live; list = l; buffer = b; batch = p.batch }

-- of `count` batches, from batch n down, those that pass the key
unfoldable pub passing_from : Geometry → ℕ → Part → ℕ → ℕ → List ℕ
passing_from g k p zero n = []
passing_from g k p (suc count) n =
    cond (passes_in g (p.batch n) k) (n ∷ passing_from g k p count (n - 1)) (passing_from g k p count (n - 1))

abbrev pub passing : Geometry → ℕ → Part → List ℕ
passing g k p = passing_from g k p p.live p.flushes

abbrev pub is_empty : {A : Type 0} → List A → Bool
is_empty [] = true
is_empty (x ∷ l) = false

-- some buffer page has an entry
unfoldable pub in_use : Geometry → Part → Bool
in_use g p = any_from g.pages 0 (λ q. not (is_empty (p.buffer q)))

-- a put of a key that is not in its buffer page, and that page is full
unfoldable pub due : Geometry → ℕ → Part → Bool
due g k p = not (is_some (find k (p.buffer (page_of g k)))) && eqb (length (p.buffer (page_of g k))) (capacity g)

-- a del that needs a place in the list
unfoldable pub must_list : Geometry → ℕ → Part → Bool
must_list g k p = not (is_some (find k p.list)) && not (is_empty (passing g k p))

-- a stamp that leaves the list after F flushes: with flush F + 1 the one K back, with a drop the oldest live one
abbrev pub expires : ℕ → ℕ → ℕ → Bool
expires back F stamp = eqb (stamp + back) (F + 1)

-- the live number after one flush more
abbrev pub live_after : ℕ → ℕ → ℕ
live_after kept live = min kept (live + 1)

unfoldable pub flushed : Geometry → Part → Part
flushed g p = record {
  flushes = suc p.flushes;
  live = live_after g.kept p.live;
  list = strike (expires g.kept p.flushes) p.list;
  buffer = nothing;
  batch = modify (suc p.flushes) (λ old. p.buffer) p.batch;
}

-- the oldest live batch taken off
unfoldable pub dropped : Part → Part
dropped p = record {
  flushes = p.flushes;
  live = p.live - 1;
  list = strike (expires p.live p.flushes) p.list;
  buffer = p.buffer;
  batch = p.batch;
}

unfoldable pub stored : Geometry → ℕ → ℕ → Part → Part
stored g k v p = remade p (erase k p.list) (modify (page_of g k) (store k v) p.buffer)

-- the list with k at its end, stamped with the first of these batches; unchanged when there is none
unfoldable pub enlist : ℕ → List ℕ → List Entry → List Entry
enlist k [] l = l
enlist k (n ∷ ns) l = l ++ (record { key = k; val = n } ∷ [])

unfoldable pub deleted : Geometry → ℕ → Part → Part
deleted g k p = remade p
    (cond (is_some (find k p.list)) p.list (enlist k (passing g k p) p.list))
    (cond (is_some (find k p.list)) p.buffer (modify (page_of g k) (erase k) p.buffer))
