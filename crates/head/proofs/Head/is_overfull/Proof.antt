-- The tests are the definition's, of one number each.
use mathlib.Core.Path.{sym}
use borrow.Author.Rules.{rules}
use Rattle.model.proofs.Heads.{overfull-tests}
use Rattle.head.proofs.Head.is_overfull.Statement.{statement}
use Rattle.head.proofs.Head.is_overfull.Tie as tie

returns : tie.Need-returns
returns c = rw c.most_entries.ensures (sym (overfull-tests _ _))

pub is_overfull_spec : {M : Type 1} → statement M
is_overfull_spec = tie.close (tie.spec (λ c κs. search rules) returns)
