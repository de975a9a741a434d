-- The rest of a text, or of a long one its beginning, moved to the start of the text.
use Prim.Native.Nat.{ℕ, ◌-◌, ◌≤◌, ◌<◌, min}
use mathlib.Core.List.{List}
use mathlib.Core.Logic.{⊎_elim}
use mathlib.Core.Path.{◌≡◌, sym, ◌∙◌}
use native.Mathlib.Omega.{arith}
use lib.ListN.{length, take, drop, length-take, length-drop}
use lib.Seq.{sets, sets-eq, take_all, take_at}
use Rattle.model.specs.Bytes.{mid}
use Rattle.model.proofs.Parts.{lt-or-ge}
use Rattle.printer.specs.Puts.{Puts}
use Rattle.lines.specs.Lines.{Unended, longest, Same}
use Rattle.lines.proofs.Cutting.{unended-drop, same-cut}

-- bytes put at the start stand there
pub stands : (bytes xs : List ℕ) (r : ℕ) (s : List ℕ) → Puts bytes 0 xs r s → length bytes ≤ length xs → take r s ≡ bytes
stands bytes xs r s p l = rw (p.holds, sets-eq bytes xs 0 (omega arith)) (take_at bytes _ r (omega (arith, p.ends)))

-- n bytes of the rest stand at the start: all of them, or as many as are kept
module _ (xs s : List ℕ) (from n : ℕ) (all : n ≡ min (length xs - from) longest) (e : s ≡ sets xs 0 (mid from n xs)) where
  kept : mid from n xs ≡ take longest (drop from xs)
  kept =
      ⊎_elim (λ (l : n < longest). take_all n (drop from xs) (rw (length-drop from xs) (omega arith)) ∙ sym (take_all longest (drop from xs) (rw (length-drop from xs) (omega arith))))
      (λ (g : longest ≤ n). let same : n ≡ longest = omega arith in rw same)
      (lt-or-ge n longest)

  length-kept : length (take longest (drop from xs)) ≡ n
  length-kept = rw (length-take, length-drop) (omega arith)

  pub puts-kept : Puts (take longest (drop from xs)) 0 xs n s
  puts-kept = record { ends = omega (arith, length-kept); holds = rw kept at e }

  pub same-kept : Unended from xs → Same (drop from xs) (take n s)
  same-kept h = rw (stands (take longest (drop from xs)) xs n s puts-kept (omega (arith, length-kept))) (same-cut (drop from xs) (unended-drop from xs h))
