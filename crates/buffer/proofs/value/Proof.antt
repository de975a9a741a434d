-- The value stands in the page as it stands in the partition.
use Prim.Native.Nat.{◌+◌, ◌*◌, ◌≤◌}
use lib.ListN.{length}
use native.Mathlib.Nat.{add_assoc}
use native.Mathlib.Omega.{arith}
use borrow.Author.Rules.{rules}
use Rattle.model.proofs.Words.{word-mid}
use Rattle.partition.proofs.Inside.{page-inside}
use Rattle.buffer.proofs.value.Statement.{statement}
use Rattle.buffer.proofs.value.Tie as tie

fits : (c : tie.After-buffer_at) → let a = c.args in c.buffer_at.result + a.g.page ≤ length a.part.now
fits c = rw c.buffer_at.ensures (page-inside _ _ c.requires.0 _ c.requires.1.0)

add-u64-at : tie.Need-overflow_add-buffer_at
add-u64-at c = omega (arith, fits c)

add-u64-at-2 : tie.Need-overflow_add-buffer_at-2
add-u64-at-2 c = omega (arith, fits c)

u64-at-requires : tie.Need-u64_at-requires
u64-at-requires c κs = omega (arith, fits c)

returns : tie.Need-returns
returns c =
    let a = c.args in
    let small : 16 * a.i + 8 + 8 ≤ a.g.page = omega arith in
    rw (c.u64_at.ensures, c.buffer_at.ensures, word-mid 8 _ _ _ _ small, add_assoc)

pub value_spec : {M : Type 1} → statement M
value_spec = tie.close (tie.spec (λ c κs. search rules) (λ c. search rules) add-u64-at add-u64-at-2 u64-at-requires returns)
