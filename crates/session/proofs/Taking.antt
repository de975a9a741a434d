-- How much of a text a run takes: what it has taken, and what it takes of the rest.
use Prim.Native.Nat.{ℕ, ◌+◌, ◌-◌, ◌≤◌, ◌<◌}
use mathlib.Core.List.{List, [], ◌∷◌, ◌++◌}
use mathlib.Core.Path.{◌≡◌, refl, sym, ◌∙◌}
use native.Mathlib.Nat.{zero-add}
use native.Mathlib.Numerals.{add-one}
use native.Mathlib.Omega.{arith}
use lib.ListN.{length, drop, take-append-drop}
use lib.Seq.{drop-cons, drop-drop}
use borrow.Author.Tests.{ne_eqb, le-leb, lt-leb}
use Rattle.model.specs.Bytes.{mid}
use Rattle.model.specs.Answers.{Areas}
use Rattle.model.specs.Session.{line_prints}
use Rattle.model.proofs.Parts.{length-mid}
use Rattle.lines.specs.Lines.{Unended, LineEnd, ended_lines}
use Rattle.printer.specs.Puts.{room}
use Rattle.applying.specs.Applies.{Applies}
use Rattle.session.specs.Promises.{taken_of}
use Rattle.lines.proofs.Lines.{unended-rest}
use Rattle.session.proofs.Running.{line-unended}
use Rattle.lines.proofs.Cutting.{unended-drop}

-- a line that a byte 10 ends, and what follows it
ended-line : (line more : List ℕ) → Unended 0 line → ended_lines (line ++ 10 ∷ more) ≡ line ∷ ended_lines more
unfolding ended_lines
ended-line [] more h = refl
ended-line (x ∷ line) more h = rw (ne_eqb x 10 (h 0 (omega arith) (omega arith)), ended-line line more (unended-rest x line h))

ended-none : (xs : List ℕ) → Unended 0 xs → ended_lines xs ≡ []
unfolding ended_lines
ended-none [] h = refl
ended-none (x ∷ xs) h = rw (ne_eqb x 10 (h 0 (omega arith) (omega arith)), ended-none xs (unended-rest x xs h))

-- without room nothing is taken
taken-full : (ls : List (List ℕ)) (a : Areas) (free : ℕ) → free < room → taken_of ls a free ≡ 0
unfolding taken_of
taken-full [] a free l = refl
taken-full (x ∷ ls) a free l = rw (lt-leb room free l)

-- of the text xs, t bytes are taken in all: `from` of them, and what is taken of the rest on the areas a, where n bytes are free less the p printed
pub record Goes (t : ℕ) (xs : List ℕ) (from : ℕ) (a : Areas) (n p : ℕ) : Type 0 where
  pub sum : t ≡ from + taken_of (ended_lines (drop from xs)) a (n - p)

pub goes_none : (xs : List ℕ) (a : Areas) (n : ℕ) → Goes (taken_of (ended_lines xs) a n) xs 0 a n 0
goes_none xs a n = let e : n - 0 ≡ n = omega arith in record { sum = rw e (sym (zero-add _)) }

module _ {t : ℕ} {xs : List ℕ} {from : ℕ} {a : Areas} {n p : ℕ} (g : Goes t xs from a n p) where
  pub goes-full : n < p + room → from ≡ t
  goes-full l = omega (arith, g.sum, taken-full (ended_lines (drop from xs)) a (n - p) (omega arith))

  pub goes-all : Unended from xs → from ≡ t
  unfolding taken_of
  goes-all h = let none : taken_of (ended_lines (drop from xs)) a (n - p) ≡ 0 = rw (ended-none (drop from xs) (unended-drop from xs h)) in omega (arith, g.sum)

  module _ (end : ℕ) (e : LineEnd xs from end) (l : end < length xs) where
    abbrev line : List ℕ
    line = mid from (end - from) xs

    rest : drop from xs ≡ line ++ 10 ∷ drop (end + 1) xs
    rest =
        let seam : from + (end - from) ≡ end = omega (arith, e.begins) in
        sym (take-append-drop (end - from) (drop from xs)) ∙ rw (drop-drop (end - from) from xs, seam, drop-cons xs end 0 l, e.ends l, add-one)

    pub goes-more : {a' : Areas} {p' : ℕ} {o o' : List ℕ} → p + room ≤ n → Applies line a p o p' o' a' → Goes t xs (end + 1) a' n p'
    unfolding taken_of
    goes-more {p' = p'} h s =
        let free : n - p - length (line_prints line a) ≡ n - p' = omega (arith, s.prints.ends) in
        let size : length line ≡ end - from = length-mid from (end - from) xs (omega (arith, e.begins)) in
        let now = rw (rest, ended-line line (drop (end + 1) xs) (line-unended xs from end e l), le-leb room (n - p) (omega arith), free, ← s.leaves) at g.sum in
        record { sum = omega (arith, now, size, e.begins) }
