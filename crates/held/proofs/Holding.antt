-- The unfinished line that is held between two reads.
use Prim.Native.Nat.{ℕ, ◌≤◌}
use mathlib.Core.List.{List, ◌++◌}
use mathlib.Core.Path.{◌≡◌, ◌∙◌, ap}
use native.Mathlib.Omega.{arith}
use lib.ListN.{length, take, drop, length-take, length-drop, length-append}
use lib.Seq.{take-append-le, length-sets, length-take-le}
use Rattle.printer.specs.Puts.{Puts}
use Rattle.lines.specs.Lines.{Unended, longest, Same}
use Rattle.lines.proofs.Cutting.{unended-take, unended-drop, same-cut}
use Rattle.lines.proofs.Keeping.{stands}
use Rattle.held.specs.declared.Rest.{Rest}
use Rattle.held.specs.Held.{Held, held_bytes, AtStart}

pub held_none : (xs : List ℕ) → Held (record { at = 0; end = 0 }) xs
held_none xs = record { begins = omega arith; within = omega arith; unended = λ i g l. absurd (omega arith) }

-- moved within its part of the buffer, it stands at the start of the whole
pub kept : (rest : Rest) (xs ys : List ℕ) (r : ℕ) → Held rest xs → Puts (take longest (held_bytes rest xs)) 0 (take rest.end xs) r ys → AtStart r rest xs (ys ++ drop rest.end xs)
kept rest xs ys r h p =
    let size : length (take rest.end xs) ≡ rest.end = length-take-le rest.end xs h.within in
    let fits : length (take longest (held_bytes rest xs)) ≤ length (take rest.end xs) = rw (length-take, length-drop) (omega arith) in
    let within : r ≤ length ys = omega (arith, p.ends, simp length-sets at (ap length p.holds)) in
    record { within = simp length-append (omega arith); stands = take-append-le r ys _ within ∙ stands _ _ r ys p fits }

module _ {n : ℕ} {rest : Rest} {xs ys : List ℕ} (k : AtStart n rest xs ys) (h : Held rest xs) where
  pub kept-short : n ≤ longest
  kept-short = omega (arith, length-take-le n ys k.within, ap length k.stands, length-take longest (held_bytes rest xs))

  pub kept-unended : Unended 0 (take n ys)
  kept-unended = rw k.stands (unended-take longest (held_bytes rest xs) (unended-drop rest.at (take rest.end xs) h.unended))

  -- it does what the whole line does
  pub kept_same : Same (held_bytes rest xs) (take n ys)
  kept_same = rw k.stands (same-cut (held_bytes rest xs) (unended-drop rest.at (take rest.end xs) h.unended))
