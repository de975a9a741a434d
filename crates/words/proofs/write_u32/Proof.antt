use Rattle.model.proofs.Words.{write-add}
use borrow.Author.Rules.{rules}
use Rattle.words.proofs.write_u32.Statement.{statement}
use Rattle.words.proofs.write_u32.Tie as tie

returns : tie.Need-returns
returns c = rw (write-add 2 2) (cc)

pub write_u32_spec : {M : Type 1} → statement M
write_u32_spec = tie.close (tie.spec (λ c. search rules) (λ c κs. search rules) (λ c. search rules) (λ c. search rules) (λ c κs. search rules) (λ c. search rules) returns)
