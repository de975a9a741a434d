-- A number written into what was copied is written into the copy.
use Rattle.model.proofs.Words.{write-set}
use Rattle.model.proofs.Parts.{length-mid}
use Rattle.model.specs.Page.{numbered}
use Rattle.model.specs.Bytes.{mid}
use native.Mathlib.Omega.{arith}
use borrow.Author.Rules.{rules}
use Rattle.batch.proofs.copy_numbered.Statement.{statement}
use Rattle.batch.proofs.copy_numbered.Tie as tie

returns : tie.Need-returns
unfolding numbered
returns c = let a = c.args in cc (write-set 4 a.flush a.at 8 a.size (mid a.from a.size a.src.now) a.dst.now (length-mid a.from a.size a.src.now (omega arith)) (omega arith))

pub copy_numbered_spec : {M : Type 1} → statement M
copy_numbered_spec = tie.close (tie.spec (λ c κs. search rules) (λ c. search rules) (λ c κs. search rules) (λ c. search rules) returns)
