-- The head is read, changed and put back.
use mathlib.Core.Path.{◌≡◌, ◌∙◌}
use mathlib.Core.List.{List}
use Prim.Native.Nat.{ℕ}
use native.Mathlib.Omega.{arith}
use borrow.Author.Rules.{rules}
use Rattle.model.specs.Partition.{Head, head_of, totalled_head, with_head, totalled}
use Rattle.head.proofs.Fields.{total-is}
use Rattle.head.proofs.change_total.Statement.{statement}
use Rattle.head.proofs.change_total.Tie as tie

totalled-requires : tie.Need-totalled-requires
totalled-requires c κs = omega (arith, total-is c.read.ensures)

back : (more less : ℕ) (h h' : Head) (p : List ℕ) → h ≡ head_of p → h' ≡ totalled_head more less h → with_head h' p ≡ totalled more less p
unfolding totalled
back more less h h' p e e' = rw (e', e)

returns : tie.Need-returns
returns c = c.put_back.ensures ∙ back _ _ _ _ _ c.read.ensures c.totalled.ensures

pub change_total_spec : {M : Type 1} → statement M
change_total_spec = tie.close (tie.spec (λ c κs. search rules) totalled-requires (λ c κs. search rules) (λ c. search rules) returns)
