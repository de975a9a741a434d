-- The entries of a delete list, and what each change of the list does to them.
use mathlib.Core.Path.{◌≡◌, refl, ◌∙◌}
use mathlib.Core.Bool.{Bool}
use mathlib.Core.List.{List, [], ◌∷◌, ◌++◌}
use Rattle.std.specs.Prelude.{Some}
use Prim.Native.Nat.{ℕ, zero, suc, ◌+◌, ◌-◌, ◌*◌, ◌^◌, ◌≤◌, ◌<◌}
use native.Mathlib.Omega.{arith}
use lib.Dec.{eqb}
use lib.ListN.{length}
use Rattle.model.specs.Bytes.{word, write}
use Rattle.model.specs.DeleteList.{listed_at, stamp_at, enlisted, struck, expiring, expired, unexpired}
use Rattle.model.proofs.Searching.{first-at}
use Rattle.model.proofs.Closing.{staying-le, staying-one}
use Rattle.model.proofs.Tables.{Entry, find, erase, strike}
use Rattle.model.proofs.Entries.{entries_from, held_at, find-entries, remaining, remaining-first, entries-last, entry-write-out, entries-write-out, entries-added, entries-closed_up}

abbrev pub list_entries : ℕ → List ℕ → List Entry
list_entries n l = entries_from 4 n 0 l

-- what a search of the list tells of its entries
pub find-listed : (k n : ℕ) (l : List ℕ) → find k (list_entries n l) ≡ held_at 4 l (listed_at n k l)
find-listed k n l = find-entries k 4 n 0 l

-- listed last
pub entries-enlisted : (n k stamp : ℕ) (l : List ℕ) → k < 2 ^ 64 → stamp < 2 ^ 32 → 16 * n + 16 ≤ length l → list_entries (n + 1) (enlisted n k stamp l) ≡ list_entries n l ++ (record { key = k; val = stamp } ∷ [])
unfolding enlisted
entries-enlisted n k stamp l hk hs room =
    let added = write 4 stamp (16 * n + 8) (write 8 k (16 * n) l) in
    rw (entries-last, entry-write-out 4 (omega arith) 4 0 (16 * n + 12) (0 + n) added (omega arith), entries-write-out 4 (omega arith) 4 0 (16 * n + 12) n 0 added (omega arith), ← (entries-last 4 n 0 added))
    (entries-added 4 (omega arith) k stamp n 0 n l (omega arith) hk hs room)

-- the entries of the places that stay where those go whose stamp passes a test
remaining-strike : (test : ℕ → Bool) (n a : ℕ) (l : List ℕ) → remaining 4 (λ i. test (stamp_at l i)) n a l ≡ strike test (entries_from 4 n a l)
unfolding remaining strike entries_from
remaining-strike test zero a l = refl
remaining-strike test (suc n) a l = rw (remaining-strike test n (a + 1) l)

module _ (n : ℕ) (l : List ℕ) (fits : 16 * n ≤ length l) where
  -- the first entry of the key removed
  pub entries-struck : (k i : ℕ) → listed_at n k l ≡ Some i → list_entries (n - 1) (struck i n l) ≡ erase k (list_entries n l)
  unfolding struck
  entries-struck k i e =
      let f = first-at (λ j. eqb (word 8 l (16 * j)) k) n 0 i e in
      rw (← (staying-one i n 0 f.low f.high)) (entries-closed_up 4 (omega arith) (eqb i) 0 l n (omega arith)) ∙ remaining-first 4 k i n 0 l e

  -- the entries that expire removed
  pub entries-expired : (back flushes : ℕ) → list_entries (unexpired back flushes n l) (expired back flushes n l) ≡ strike (λ s. eqb (s + back) (flushes + 1)) (list_entries n l)
  unfolding expired unexpired
  entries-expired back flushes = entries-closed_up 4 (omega arith) (expiring back flushes l) 0 l n (omega arith) ∙ remaining-strike (λ s. eqb (s + back) (flushes + 1)) n 0 l

pub unexpired-le : (back flushes n : ℕ) (l : List ℕ) → unexpired back flushes n l ≤ n
unfolding unexpired
unexpired-le back flushes n l = staying-le (expiring back flushes l) n 0

pub stay-at-most : {s : ℕ} (back flushes n : ℕ) (l : List ℕ) → s ≡ unexpired back flushes n l → s ≤ n
stay-at-most back flushes n l e = rw e (unexpired-le back flushes n l)
