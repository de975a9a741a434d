-- What a line prints and leaves, and a session's lines, piece by piece.
use Prim.Native.Nat.{ℕ, ◌≤◌}
use mathlib.Core.Path.{◌≡◌, refl}
use Rattle.std.specs.Prelude.{None, Some}
use native.Mathlib.Omega.{arith}
use lib.ListN.{length, length-append}
use Rattle.model.specs.Text.{text}
use mathlib.Core.List.{List, [], ◌∷◌, ◌++◌, append_assoc, append-nil}
use Rattle.model.specs.Answers.{Areas, Answer, done, found, absent, refused, shown}
use Rattle.model.specs.Calls.{Call, reply, after}
use Rattle.model.specs.Session.{call_of, answer_text, line_prints, line_leaves, lines_of, lines_print, lines_leave}
use Rattle.model.proofs.Decimals.{length-decimal}

-- an answer's text has at most 72 bytes
pub length-answer : (a : Answer) → length (answer_text a) ≤ 72
unfolding answer_text
length-answer (done n) = simp length-append (omega (arith, length-decimal n))
length-answer (found v c p) = simp length-append (omega (arith, length-decimal v, length-decimal c.reads, length-decimal c.comparisons))
length-answer (absent c) = simp length-append (omega (arith, length-decimal c.reads, length-decimal c.comparisons))
length-answer (refused n r) = simp length-append (omega (arith, length-decimal n, length-decimal r))
length-answer (shown s) = omega arith

-- ---- a line that says a call, and one that says none
module _ (line : List ℕ) (a : Areas) where
  pub prints-answer : (c : Call) → call_of line ≡ Some c → line_prints line a ≡ answer_text (reply a c)
  unfolding line_prints
  prints-answer c e = rw e

  pub leaves_after : (c : Call) → call_of line ≡ Some c → line_leaves line a ≡ after a c
  unfolding line_leaves
  leaves_after c e = rw e

  pub prints-bad : call_of line ≡ None → line_prints line a ≡ text "(bad)\n"
  unfolding line_prints
  prints-bad e = rw e

  pub leaves-same : call_of line ≡ None → line_leaves line a ≡ a
  unfolding line_leaves
  leaves-same e = rw e

-- ---- no line
pub lines_none : lines_of [] ≡ []
unfolding lines_of
lines_none = refl

pub print-none : (a : Areas) → lines_print (lines_of []) a ≡ []
unfolding lines_of lines_print
print-none a = refl

pub leave_none : (a : Areas) → lines_leave (lines_of []) a ≡ a
unfolding lines_of lines_leave
leave_none a = refl

-- one line more
pub print-line : (line : List ℕ) (ls : List (List ℕ)) (a : Areas) → lines_print (line ∷ ls) a ≡ line_prints line a ++ lines_print ls (line_leaves line a)
unfolding lines_print
print-line line ls a = refl

pub leave-line : (line : List ℕ) (ls : List (List ℕ)) (a : Areas) → lines_leave (line ∷ ls) a ≡ lines_leave ls (line_leaves line a)
unfolding lines_leave
leave-line line ls a = refl

-- one line alone
pub print-one : (line : List ℕ) (a : Areas) → lines_print (line ∷ []) a ≡ line_prints line a
unfolding lines_print
print-one line a = append-nil (line_prints line a)

pub leave-one : (line : List ℕ) (a : Areas) → lines_leave (line ∷ []) a ≡ line_leaves line a
unfolding lines_leave
leave-one line a = refl

-- some lines, and others behind them
pub leave-append : (ls ms : List (List ℕ)) (a : Areas) → lines_leave (ls ++ ms) a ≡ lines_leave ms (lines_leave ls a)
unfolding lines_leave
leave-append [] ms a = refl
leave-append (l ∷ ls) ms a = leave-append ls ms (line_leaves l a)

pub print-append : (ls ms : List (List ℕ)) (a : Areas) → lines_print (ls ++ ms) a ≡ lines_print ls a ++ lines_print ms (lines_leave ls a)
unfolding lines_print lines_leave
print-append [] ms a = refl
print-append (l ∷ ls) ms a = rw (print-append ls ms (line_leaves l a), append_assoc)
