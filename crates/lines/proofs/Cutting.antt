-- An unfinished line that is too long for a form stays bad whatever follows, and so does its beginning where that is too long.
use Prim.Native.Nat.{ℕ, ◌+◌, ◌≤◌, ◌<◌}
use mathlib.Core.List.{List, [], ◌∷◌, ◌++◌}
use mathlib.Core.Logic.{⊎_elim}
use Rattle.std.specs.Prelude.{None}
use mathlib.Core.Path.{◌≡◌, refl, sym, ◌∙◌}
use native.Mathlib.Omega.{arith}
use lib.ListN.{length, take, drop, length-append, length-take, length-drop}
use lib.Seq.{take_all, get_or-take, get_or-drop}
use borrow.Author.Tests.{ne_eqb}
use Rattle.model.proofs.Parts.{lt-or-ge}
use Rattle.model.specs.Text.{text}
use Rattle.model.specs.Answers.{Areas}
use Rattle.model.specs.Session.{started_by, call_of, lines_of, lines_print, lines_leave}
use Rattle.model.proofs.Sessions.{prints-bad, leaves-same, print-line, leave-line}
use Rattle.lines.specs.Lines.{Unended, longest, Same}
use Rattle.lines.proofs.Lines.{unended-rest}
use Rattle.model.proofs.Longest.{long-says-none}

-- the first line of a list of lines, and the others
abbrev first : List (List ℕ) → List ℕ
first [] = []
first (l ∷ ls) = l

abbrev others : List (List ℕ) → List (List ℕ)
others [] = []
others (l ∷ ls) = ls

started : (x : ℕ) (ls : List (List ℕ)) → started_by x ls ≡ (x ∷ first ls) ∷ others ls
started x [] = refl
started x (l ∷ ls) = refl

-- an unfinished line goes on in what follows
pub lines-on : (x : ℕ) (xs more : List ℕ) → Unended 0 (x ∷ xs) → lines_of ((x ∷ xs) ++ more) ≡ ((x ∷ xs) ++ first (lines_of more)) ∷ others (lines_of more)
unfolding lines_of
lines-on x [] more h = rw (ne_eqb x 10 (h 0 (omega arith) (omega arith))) (started x (lines_of more))
lines-on x (y ∷ xs) more h = rw (ne_eqb x 10 (h 0 (omega arith) (omega arith)), lines-on y xs more (unended-rest x (y ∷ xs) h))

-- a line that says no call
module _ (line : List ℕ) (ls : List (List ℕ)) (a : Areas) (e : call_of line ≡ None) where
  bad-prints : lines_print (line ∷ ls) a ≡ text "(bad)\n" ++ lines_print ls a
  bad-prints = rw (print-line line ls a, prints-bad line a e, leaves-same line a e)

  bad-leaves : lines_leave (line ∷ ls) a ≡ lines_leave ls a
  bad-leaves = rw (leave-line line ls a, leaves-same line a e)

-- all that a line too long prints and leaves, whatever follows it
module _ (more : List ℕ) (a : Areas) where
  no_call : (xs : List ℕ) → 138 < length xs → call_of (xs ++ first (lines_of more)) ≡ None
  no_call xs l = long-says-none _ (simp length-append (omega arith))

  long-prints : (xs : List ℕ) → Unended 0 xs → 138 < length xs → lines_print (lines_of (xs ++ more)) a ≡ text "(bad)\n" ++ lines_print (others (lines_of more)) a
  long-prints [] h l = absurd (omega arith)
  long-prints (x ∷ xs) h l = rw (lines-on x xs more h) (bad-prints _ _ a (no_call (x ∷ xs) l))

  long-leaves : (xs : List ℕ) → Unended 0 xs → 138 < length xs → lines_leave (lines_of (xs ++ more)) a ≡ lines_leave (others (lines_of more)) a
  long-leaves [] h l = absurd (omega arith)
  long-leaves (x ∷ xs) h l = rw (lines-on x xs more h) (bad-leaves _ _ a (no_call (x ∷ xs) l))

pub unended-take : (n : ℕ) (xs : List ℕ) → Unended 0 xs → Unended 0 (take n xs)
unended-take n xs h i g l e =
    let w : (i < n) × (i < length xs) = let k = rw (length-take n xs) at l in (omega arith, omega arith) in
    h i g w.1 (sym (get_or-take n xs i 0 w.0) ∙ e)

pub same-cut : (xs : List ℕ) → Unended 0 xs → Same xs (take longest xs)
same-cut xs h = ⊎_elim long short (lt-or-ge longest (length xs))
  where
    long : longest < length xs → Same xs (take longest xs)
    long l =
        let u = unended-take longest xs h in
        let k : 138 < length (take longest xs) = rw (length-take longest xs) (omega arith) in
        record {
          prints = λ more a. long-prints more a (take longest xs) u k ∙ sym (long-prints more a xs h (omega arith));
          leaves = λ more a. long-leaves more a (take longest xs) u k ∙ sym (long-leaves more a xs h (omega arith));
        }

    short : length xs ≤ longest → Same xs (take longest xs)
    short g = rw (take_all longest xs g) (record { prints = λ more a. refl; leaves = λ more a. refl })

pub unended-drop : (from : ℕ) (xs : List ℕ) → Unended from xs → Unended 0 (drop from xs)
unended-drop from xs h i g l e = h (from + i) (omega arith) (omega (arith, rw (length-drop from xs) at l)) (sym (get_or-drop from xs i 0) ∙ e)
