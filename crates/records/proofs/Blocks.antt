-- Records passed over in blocks: what a block lacks, all that came before and the block lack.
use mathlib.Core.Path.{◌≡◌, refl, sym, ◌∙◌, ap}
use mathlib.Core.Logic.{⊎_elim}
use mathlib.Core.Bool.{false, false≢true}
use mathlib.Core.List.{List}
use Rattle.std.specs.Prelude.{Option, None, Some}
use Prim.Native.Nat.{ℕ, ◌+◌, ◌-◌, ◌*◌, ◌/◌, ◌≤◌, ◌<◌}
use native.Mathlib.Omega.{arith}
use lib.Dec.{eqb}
use Rattle.model.specs.Bytes.{word}
use Rattle.model.specs.Records.{first_record}
use Rattle.model.specs.Search.{is_some, any_from}
use Rattle.model.proofs.Parts.{lt-or-ge}
use Rattle.model.proofs.Searching.{first-none, first-behind}
use Rattle.records.specs.Lacking.{has_key, Lacking}

none_of : {A : Type 0} (o : Option A) → is_some o ≡ false → o ≡ None
none_of None e = refl
none_of (Some x) e = absurd (false≢true (sym e))

-- r records lack the key, and so do the m behind them
pub lack-more : (key at : ℕ) (xs : List ℕ) (m r : ℕ) → ((i : ℕ) → i < r → has_key key at xs i ≡ false) → any_from m 0 (has_key key (at + 16 * r) xs) ≡ false → (i : ℕ) → i < r + m → has_key key at xs i ≡ false
lack-more key at xs m r before block i l =
    ⊎_elim (before i)
    (λ (h : r ≤ i).
    let e : at + 16 * i ≡ at + 16 * r + 16 * (i - r) = omega arith in
    ap (λ x. eqb (word 8 xs x) key) e ∙ first-none _ m 0 (none_of _ block) (i - r) (omega arith) (omega arith))
    (lt-or-ge i r)

-- b blocks lack the key, and so does the block behind them
pub block-more : (key at b : ℕ) (xs : List ℕ) → ((i : ℕ) → i < 4 * b → has_key key at xs i ≡ false) → any_from 4 0 (has_key key (at + 64 * b) xs) ≡ false → (i : ℕ) → i < 4 * (b + 1) → has_key key at xs i ≡ false
block-more key at b xs before block i l =
    let e : at + 16 * (4 * b) ≡ at + 64 * b = omega arith in
    lack-more key at xs 4 (4 * b) before (ap (λ x. any_from 4 0 (has_key key x xs)) e ∙ block) i (omega arith)

-- the search for a key among n records from `from` on goes on behind r that lack it
pub search-behind : (key n from r : ℕ) (xs : List ℕ) → Lacking key (16 * from) xs n r → first_record key n from xs ≡ first_record key (from + n - (from + r)) (from + r) xs
search-behind key n from r xs h =
    let d : from + n - (from + r) ≡ n - r = omega arith in
    rw d (first-behind _ n from r (λ j l. (let e : 16 * (from + j) ≡ 16 * from + 16 * j = omega arith in rw e (h.lack j l))) h.within)
