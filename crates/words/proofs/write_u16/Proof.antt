use Rattle.model.specs.Bytes.{write, bytes_of}
use native.Mathlib.Numerals.{towards_suc}
use native.Mathlib.Omega.{arith}
use lib.ListN.{length-set}
use borrow.Author.Rules.{rules}
use Rattle.words.proofs.write_u16.Statement.{statement}
use Rattle.words.proofs.write_u16.Tie as tie

slice-write-s-2 : tie.Need-bounds-s-at-2
slice-write-s-2 c = simp length-set (omega arith)

same_length : tie.Need-shape_of-s
same_length c = simp length-set

returns : tie.Need-returns
unfolding write bytes_of
returns c = simp towards_suc

pub write_u16_spec : {M : Type 1} → statement M
write_u16_spec = tie.close (tie.spec (λ c. search rules) (λ c. search rules) (λ c. search rules) (λ c. search rules) slice-write-s-2 same_length returns)
