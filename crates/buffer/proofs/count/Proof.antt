-- A page's count is the number that its part opens with.
use Prim.Native.Nat.{◌+◌, ◌≤◌}
use native.Mathlib.Omega.{arith}
use borrow.Author.Rules.{rules}
use Rattle.buffer.proofs.count.Statement.{statement}
use Rattle.buffer.proofs.count.Tie as tie
use native.Mathlib.Nat.{add-zero}
use Rattle.model.proofs.Sizes.{sizes}
use Rattle.model.proofs.Words.{word-mid}
use Rattle.partition.proofs.Inside.{page-inside}

u16-at-requires : tie.Need-u16_at-requires
u16-at-requires c κs = let w = c.requires.0 in omega (arith, sizes _ w.fine, page-inside _ _ w _ c.requires.1)

returns : tie.Need-returns
returns c =
    let z = sizes _ c.requires.0.fine in
    let small : 0 + 2 ≤ c.args.g.page = omega arith in
    rw (c.u16_at.ensures, c.buffer_at.ensures, word-mid 2 _ _ _ 0 small, add-zero)

pub count_spec : {M : Type 1} → statement M
count_spec = tie.close (tie.spec (λ c κs. search rules) u16-at-requires (λ c. search rules) returns)
