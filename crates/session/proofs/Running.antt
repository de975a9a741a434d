-- A run goes on by one line: it took whole lines, and takes the next with the byte 10 that ends it.
use Prim.Native.Nat.{ℕ, ◌+◌, ◌-◌, ◌≤◌, ◌<◌}
use mathlib.Core.List.{List, [], ◌∷◌, ◌++◌, append_assoc}
use mathlib.Core.Path.{◌≡◌, refl, sym, ◌∙◌, ap}
use native.Mathlib.Numerals.{add-one}
use native.Mathlib.Omega.{arith}
use lib.ListN.{length, take}
use lib.Seq.{take-suc, take-add, length-sets}
use Rattle.model.specs.Bytes.{mid}
use Rattle.model.specs.Answers.{Areas}
use Rattle.model.specs.Session.{line_prints, line_leaves, lines_of, lines_print, lines_leave}
use Rattle.model.proofs.Parts.{get_or-mid, length-mid}
use Rattle.model.proofs.Sessions.{lines_none, print-none, leave_none, print-one, leave-one}
use Rattle.printer.proofs.Printing.{puts-append}
use Rattle.lines.specs.Lines.{Unended, LineEnd, Whole}
use Rattle.applying.specs.Applies.{Applies}
use Rattle.session.specs.Promises.{Ran}
use Rattle.lines.proofs.Lines.{lines-line, whole-line, whole-more}
use Rattle.session.proofs.Pieces.{leave-pieces, print-pieces}

pub ran-none : (a : Areas) (o : List ℕ) → Ran [] a o 0 o a
ran-none a o = record { fits = omega arith; prints = rw (print-none a) (record { ends = refl; holds = refl }); leaves = sym (leave_none a) }

-- ---- a line and the byte that ends it
abbrev ended : List ℕ → List ℕ
ended line = line ++ 10 ∷ []

module _ (line : List ℕ) (h : Unended 0 line) (a : Areas) where
  prints-line : lines_print (lines_of (ended line)) a ≡ line_prints line a
  prints-line = rw (lines-line line [] h, lines_none) (print-one line a)

  leaves-line : lines_leave (lines_of (ended line)) a ≡ line_leaves line a
  leaves-line = rw (lines-line line [] h, lines_none) (leave-one line a)

-- ---- the line that begins at `from`, and ends before the text does
module _ (xs : List ℕ) (from end : ℕ) (e : LineEnd xs from end) (l : end < length xs) where
  abbrev line : List ℕ
  line = mid from (end - from) xs

  pub line-unended : Unended 0 line
  line-unended i g k h =
      let n : length line ≡ end - from = length-mid from (end - from) xs (omega (arith, e.begins)) in
      e.inside (from + i) (omega arith) (omega arith) (sym (get_or-mid from (end - from) xs i (omega arith)) ∙ h)

  line_taken : take (end + 1) xs ≡ take from xs ++ ended line
  line_taken =
      let seam : end ≡ from + (end - from) = omega (arith, e.begins) in
      let before : take end xs ≡ take from xs ++ line = ap (λ (n : ℕ). take n xs) seam ∙ take-add from (end - from) xs in
      rw (add-one, take-suc xs end 0 l, e.ends l, before, append_assoc)

  pub taken_more : Whole (take from xs) → Whole (take (end + 1) xs)
  taken_more w = rw line_taken (whole-more (take from xs) (ended line) w (whole-line line line-unended))

  pub ran-more : {a a₁ a₂ : Areas} {o o₁ o₂ : List ℕ} {n n₂ : ℕ} → Whole (take from xs) → Ran (take from xs) a o n o₁ a₁ → Applies line a₁ n o₁ n₂ o₂ a₂ → Ran (take (end + 1) xs) a o n₂ o₂ a₂
  ran-more {a} {a₁} w r s =
      rw (line_taken) (record {
        fits = omega (arith, s.fits, simp length-sets at (ap length r.prints.holds));
        prints = rw (print-pieces (take from xs) w (ended line) a, ← r.leaves, prints-line line line-unended a₁) (puts-append r.prints s.prints);
        leaves = rw (leave-pieces (take from xs) w (ended line) a, ← r.leaves, leaves-line line line-unended a₁) s.leaves;
      })

-- the last line has no end
pub unended-last : (xs : List ℕ) (from end : ℕ) → LineEnd xs from end → length xs ≤ end → Unended from xs
unended-last xs from end e h i g l = e.inside i g (omega arith)
