-- A turn takes the next line with the byte 10 that ends it; a run ends where there is no room, or no such byte.
use Rattle.std.proofs.Common.{◌+◌, ◌<◌, ◌≤◌, length, arith, sym}
use borrow.Author.Tests.{leb-true, leb-false}
use Rattle.printer.specs.Puts.{room}
use Rattle.lines.proofs.Lines.{whole-none}
use Rattle.session.proofs.Running.{ran-none, taken_more, ran-more, unended-last}
use Rattle.session.proofs.Taking.{goes_none, goes-full, goes-all, goes-more}
use Rattle.session.proofs.run_lines.Goals as goal

pub loop-end-init : goal.loop-end-init
loop-end-init c = (omega arith, whole-none, ran-none _ _, goes_none _ _ _)

pub loop-end-preserved : goal.loop-end-preserved
loop-end-preserved c =
    let i = c.loop-end.invariant in
    let e = c.line_end-end.ensures in
    let p = c.perform-printed.ensures in
    let enough : c.loop-end.printed + room ≤ length c.loop-end.out = leb-true _ _ (sym c.loop-end-test.ensures) in
    (omega arith, taken_more _ _ _ e (omega arith) i.1, ran-more _ _ _ e (omega arith) i.1 i.2 p, goes-more i.3 _ e (omega arith) (omega arith) p)

pub returns-after-loop-end-clause-takes : goal.returns-after-loop-end-clause-takes
returns-after-loop-end-clause-takes c =
    let i = c.loop-end.invariant in
    let full : length c.loop-end.out < c.loop-end.printed + room = leb-false _ _ (sym c.loop-end-test.ensures) in
    record { exactly = goes-full i.3 (omega arith); within = i.0; whole = i.1; all = λ h. absurd (omega arith) }

pub returns-then-end-input-clause-takes : goal.returns-then-end-input-clause-takes
returns-then-end-input-clause-takes c =
    let i = c.loop-end.invariant in
    let u = unended-last _ _ _ c.line_end-end.ensures (omega arith) in
    record { exactly = goes-all i.3 u; within = i.0; whole = i.1; all = λ h. u }
