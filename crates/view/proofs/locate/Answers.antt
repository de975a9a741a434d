-- Flush number 0 is the buffer in memory, and any other one is a page of flash.
use Rattle.std.proofs.Common.{eq-eqb, ne_eqb, arith}
use Rattle.model.proofs.Sizes.{partition-at-max, buffer-at-max}
use Rattle.model.proofs.Calls.{viewed-page}
use Rattle.view.proofs.locate.Goals as goal

pub overflow_add-at : goal.overflow_add-at
overflow_add-at c =
    let a = c.args in
    let ok = c.requires.g_value in
    omega (arith, partition-at-max a.g ok a.t (omega arith), buffer-at-max a.g ok a.q (omega arith))

pub returns-then-n-eq0 : goal.returns-then-n-eq0
returns-then-n-eq0 c = rw (viewed-page, eq-eqb _ _ c.if-n-eq0.true, c.partition_at.ensures, c.buffer_at.ensures)

pub returns : goal.returns
returns c = rw (viewed-page, ne_eqb _ _ c.if-n-eq0.false) c.locate_in_flash.ensures
