-- The first of the key's bits that the filter misses ends the loop.
use Rattle.std.proofs.Common.{sym, ◌∙◌, arith}
use Rattle.model.proofs.Sizes.{filter-fits, buffer-end}
use Rattle.model.proofs.Bits.{bit_byte, bit-clear, bit-there, pass_all, pass-miss, pass-next, pass-end}
use Rattle.filter.proofs.passes.Goals as goal

pub loop-i-init : goal.loop-i-init
loop-i-init c = pass_all _ _ _

pub overflow_add-at : goal.overflow_add-at
overflow_add-at c =
    let a = c.args in
    omega (arith, filter-fits a.g a.j c.requires.j_lt_kept, buffer-end a.g, bit_byte _ c.requires.g_value _ _ c.loop-i-test.true c.bit_of-b.ensures)

pub bounds-part-at : goal.bounds-part-at
bounds-part-at c =
    let a = c.args in
    omega (arith, filter-fits a.g a.j c.requires.j_lt_kept, buffer-end a.g, bit_byte _ c.requires.g_value _ _ c.loop-i-test.true c.bit_of-b.ensures)

pub returns-then-part-at-eq0 : goal.returns-then-part-at-eq0
returns-then-part-at-eq0 c =
    let t = c.loop-i-test.true in
    sym (c.loop-i.invariant ∙ pass-miss _ _ _ _ t (bit-clear _ c.requires.g_value _ _ t c.bit_of-b.ensures _ _ (rw c.filter_at-at.ensures at c.if-part-at-eq0.true)))

pub loop-i-preserved : goal.loop-i-preserved
loop-i-preserved c =
    let t = c.loop-i-test.true in
    c.loop-i.invariant ∙ pass-next _ _ _ _ t (bit-there _ c.requires.g_value _ _ t c.bit_of-b.ensures _ _ (rw c.filter_at-at.ensures at c.if-part-at-eq0.false))

pub returns : goal.returns
returns c = sym (c.loop-i.invariant ∙ pass-end _ _ _ _ c.loop-i-test.false)
