-- The first record that has the key decides; each that lacks it leaves the answer to those behind it.
use native.Mathlib.Omega.{arith}
use native.Mathlib.Nat.{add-zero}
use mathlib.Core.Bool.{true, false}
use mathlib.Core.List.{List}
use mathlib.Core.Path.{◌≡◌, sym, ◌∙◌}
use Prim.Native.Nat.{ℕ, ◌+◌}
use lib.Dec.{eqb}
use borrow.Author.Tests.{eq-eqb, ne_eqb}
use Rattle.model.specs.Bytes.{word}
use Rattle.model.proofs.Searching.{any_here, any_next, any-alone}
use Rattle.records.proofs.is_in_block.Statement.{statement}
use Rattle.records.proofs.is_in_block.Tie as tie

has : {r w key : ℕ} → r ≡ w → r ≡ key → eqb w key ≡ true
has e h = eq-eqb _ _ (sym e ∙ h)

lacks : {r w key : ℕ} → r ≡ w → (r ≡ key → ⊥) → eqb w key ≡ false
lacks e h = ne_eqb _ _ (λ q. h (e ∙ q))

same : (key : ℕ) {r w : ℕ} → r ≡ w → eqb r key ≡ eqb w key
same key e = rw e

-- the first record begins at `at`
first : (xs : List ℕ) (at r : ℕ) → r ≡ word 8 xs at → r ≡ word 8 xs (at + 0)
first xs at r e = rw add-zero e

returns : tie.Need-returns-then-u64_at-key
returns c = any_here _ 3 0 (has (first _ _ _ c.u64_at.ensures) c.if-u64_at-key.true)

returns-2 : tie.Need-returns-then-u64_at-key-2
returns-2 c =
    any_here _ 2 1 (has c.u64_at-2.ensures c.if-u64_at-key-2.true)
    ∙ any_next _ 3 0 (lacks (first _ _ _ c.u64_at.ensures) c.if-u64_at-key.false)

returns-3 : tie.Need-returns-then-u64_at-key-3
returns-3 c =
    let e = c.before.before.before in
    any_here _ 1 2 (has c.u64_at-3.ensures c.if-u64_at-key-3.true)
    ∙ any_next _ 2 1 (lacks e.u64_at-2.ensures c.if-u64_at-key-2.false)
    ∙ any_next _ 3 0 (lacks (first _ _ _ e.u64_at.ensures) e.if-u64_at-key.false)

returns-4 : tie.Need-returns
returns-4 c =
    let d = c.before.before in
    let e = d.before.before in
    same _ c.u64_at-4.ensures ∙ any-alone _ 3
    ∙ any_next _ 1 2 (lacks d.u64_at-3.ensures c.if-u64_at-key-3.false)
    ∙ any_next _ 2 1 (lacks e.u64_at-2.ensures d.if-u64_at-key-2.false)
    ∙ any_next _ 3 0 (lacks (first _ _ _ e.u64_at.ensures) e.if-u64_at-key.false)

pub is_in_block_spec : {M : Type 1} → statement M
is_in_block_spec = tie.close (tie.spec (λ c κs. omega arith) returns (λ c. omega arith) (λ c κs. omega arith) returns-2 (λ c. omega arith) (λ c κs. omega arith) returns-3 (λ c. omega arith) (λ c κs. omega arith) returns-4)
