use Rattle.model.proofs.Words.{write-add}
use borrow.Author.Rules.{rules}
use Rattle.words.proofs.write_u64.Statement.{statement}
use Rattle.words.proofs.write_u64.Tie as tie

returns : tie.Need-returns
returns c = rw (write-add 4 4) (cc)

pub write_u64_spec : {M : Type 1} → statement M
write_u64_spec = tie.close (tie.spec (λ c. search rules) (λ c κs. search rules) (λ c. search rules) (λ c. search rules) (λ c κs. search rules) (λ c. search rules) returns)
