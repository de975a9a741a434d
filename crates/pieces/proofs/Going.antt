-- A piece of input is run in turns, each over what the one before it left; and a last line is run alone.
use Prim.Native.Nat.{ℕ, ◌+◌, ◌-◌, ◌≤◌, ◌<◌}
use mathlib.Core.List.{List, [], ◌∷◌, ◌++◌}
use mathlib.Core.Path.{◌≡◌, sym, ◌∙◌, ap}
use native.Mathlib.Omega.{arith}
use Rattle.std.specs.Prelude.{Result, Ok, Err, IsErr}
use lib.ListN.{length, take, drop, get_or, length-drop}
use lib.Seq.{take_all, take-add, get_or-drop}
use Rattle.model.specs.Bytes.{mid}
use Rattle.model.specs.Answers.{Areas}
use Rattle.model.specs.Session.{lines_of, lines_print}
use Rattle.model.proofs.Sessions.{print-none, print-one, leave_none, leave-one}
use Rattle.lines.specs.Lines.{Unended}
use Rattle.printer.specs.Puts.{room}
use Rattle.applying.specs.Applies.{Applies}
use Rattle.session.specs.Promises.{Ran, Takes}
use Rattle.lines.proofs.Lines.{lines-last, whole-none, whole-more}
use Rattle.session.proofs.Pieces.{leave-pieces}
use Rattle.session.proofs.Running.{ran-none}
use Rattle.pieces.specs.Pieces.{Went, WentPartly, WentOn, RanLast}

pub went-none : (xs : List ℕ) (a : Areas) → Went 0 xs a a
went-none xs a = record { within = omega arith; whole = whole-none; leaves = sym (leave_none a) }

module _ (xs : List ℕ) (taken : ℕ) (inside : taken ≤ length xs) where
  abbrev rest : List ℕ
  rest = mid taken (length xs - taken) xs

  rest-drop : rest ≡ drop taken xs
  rest-drop = take_all (length xs - taken) (drop taken xs) (rw length-drop (omega arith))

  module _ (r n : ℕ) (o : List ℕ) {b : Areas} (t : Takes r rest b n o) where
    pub taken-within : taken + r ≤ length xs
    taken-within = omega (arith, t.within, ap length rest-drop, length-drop taken xs)

    -- a turn takes r bytes more
    pub went-more : {a a₁ a₂ : Areas} {o' : List ℕ} → Went taken xs a a₁ → Ran (take r rest) a₁ o n o' a₂ → Went (taken + r) xs a a₂
    went-more {a} w s =
        let e : take (taken + r) xs ≡ take taken xs ++ take r rest = take-add taken r xs ∙ ap (λ (ys : List ℕ). take taken xs ++ take r ys) (sym rest-drop) in
        record {
          within = taken-within;
          whole = rw e (whole-more (take taken xs) (take r rest) w.whole t.whole);
          leaves = rw (e, leave-pieces (take taken xs) w.whole (take r rest) a, ← w.leaves) s.leaves;
        }

    pub went-same : {a a₁ a₂ : Areas} {o' : List ℕ} → r ≡ 0 → Went taken xs a a₁ → Ran (take r rest) a₁ o n o' a₂ → Went taken xs a a₂
    went-same z w s = let e : taken + r ≡ taken = omega arith in rw e at (went-more w s)

    -- a turn that takes nothing, though there is room, finds no end of a line
    pub went-all : {a₁ a₂ : Areas} {o' : List ℕ} → r ≡ 0 → room ≤ length o → Ran (take r rest) a₁ o n o' a₂ → Unended taken xs
    went-all {a₁ = a₁} z l s i g k e =
        let none : n ≡ 0 = (rw (z, print-none a₁) at s.prints.ends) in
        let u : Unended 0 rest = rw z at (t.all (omega arith)) in
        (rw rest-drop at u) (i - taken) (omega arith) (rw length-drop (omega arith)) (get_or-drop taken xs (i - taken) 0 ∙ ap (λ (j : ℕ). get_or xs j 0) (omega arith) ∙ e)

pub unended-end : (xs : List ℕ) (n : ℕ) → length xs ≤ n → Unended n xs
unended-end xs n l i g k = absurd (omega arith)

-- an error tells nothing else
pub went-err : {E : Type 0} (r : Result ℕ E) {xs : List ℕ} {a a' : Areas} → IsErr r → WentPartly xs a a' → WentOn r xs a a'
went-err (Ok n) h w = absurd (cc)
went-err (Err e) h w = w

-- ---- the last line
-- what is printed is as long as the answer
ran-length : {line : List ℕ} {a a' : Areas} {o o' : List ℕ} {n : ℕ} → Ran line a o n o' a' → RanLast line a o o' a'
ran-length {line} {a} {n = n} r = let e : length (lines_print (lines_of line) a) ≡ n = omega (arith, r.prints.ends) in rw e r

pub ran-empty : (line : List ℕ) (a : Areas) (o : List ℕ) → length line ≡ 0 → RanLast line a o o a
ran-empty [] a o e = ran-length (ran-none a o)
ran-empty (x ∷ xs) a o e = absurd (omega arith)

pub ran-last : {line : List ℕ} {a a' : Areas} {o o' : List ℕ} {n : ℕ} → Unended 0 line → 0 < length line → Applies line a 0 o n o' a' → RanLast line a o o' a'
ran-last {line} {a} h l s =
    ran-length (record { fits = s.fits; prints = rw (lines-last line l h, print-one line a) s.prints; leaves = rw (lines-last line l h, leave-one line a) s.leaves })
