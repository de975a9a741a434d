-- A session runs piece by piece: whole lines first, then what follows them on the areas as they left them.
use Prim.Native.Nat.{ℕ}
use mathlib.Core.List.{List, ◌++◌}
use mathlib.Core.Path.{◌≡◌}
use Rattle.model.specs.Answers.{Areas}
use Rattle.model.specs.Session.{lines_of, lines_print, lines_leave}
use Rattle.model.proofs.Sessions.{leave-append, print-append}
use Rattle.lines.specs.Lines.{Whole}

module _ (xs : List ℕ) (whole : Whole xs) (more : List ℕ) (a : Areas) where
  pub leave-pieces : lines_leave (lines_of (xs ++ more)) a ≡ lines_leave (lines_of more) (lines_leave (lines_of xs) a)
  leave-pieces = rw (whole more) (leave-append (lines_of xs) (lines_of more) a)

  pub print-pieces : lines_print (lines_of (xs ++ more)) a ≡ lines_print (lines_of xs) a ++ lines_print (lines_of more) (lines_leave (lines_of xs) a)
  print-pieces = rw (whole more) (print-append (lines_of xs) (lines_of more) a)
