-- What was read so far tells what the next head adds, or that it is the first that is not the one expected.
use Rattle.std.proofs.Common.{arith}
use Rattle.model.proofs.Sizes.{sizes, slot-is-lt}
use Rattle.outgoing.proofs.Heads.{none_read, all_read, one-fails, one_more, lies-in-flash}
use Rattle.outgoing.proofs.read_heads.Goals as goal

pub loop-q-init : goal.loop-q-init
loop-q-init c = none_read _ _ _ _

pub slot_page_at-at-requires-clause-j_lt_kept : goal.slot_page_at-at-requires-clause-j_lt_kept
slot_page_at-at-requires-clause-j_lt_kept c = slot-is-lt _ c.requires.g_value _ c.requires.j_value

pub is_expected_at-requires-clause-page_in_bounds : goal.is_expected_at-requires-clause-page_in_bounds
is_expected_at-requires-clause-page_in_bounds c =
    let r = c.requires in
    lies-in-flash _ _ _ _ r.g_value _ _ _ r.t_bound c.loop-q-test.true r.j_value c.slot_page_at-at.ensures r.g_in_bounds

pub returns-then-not-is_expected_at : goal.returns-then-not-is_expected_at
returns-then-not-is_expected_at c =
    one-fails _ _ _ _ _ _ c.loop-q.invariant c.loop-q-test.true _ _ c.requires.j_value c.slot_page_at-at.ensures _ c.is_expected_at.ensures c.if-not-is_expected_at.true

pub u16_at-requires : goal.u16_at-requires
u16_at-requires c =
    let r = c.requires in
    let inside = lies-in-flash _ _ _ _ r.g_value _ _ _ r.t_bound c.loop-q-test.true r.j_value c.slot_page_at-at.ensures r.g_in_bounds in
    omega (arith, inside, (sizes _ r.g_value).page-min)

pub overflow_add-entries : goal.overflow_add-entries
overflow_add-entries c = omega (arith, c.loop-q.invariant.small, (sizes _ c.requires.g_value).pages-max)

pub loop-q-preserved : goal.loop-q-preserved
loop-q-preserved c =
    let r = c.requires in
    one_more _ _ _ _ _ _ c.loop-q.invariant c.loop-q-test.true _ _ r.j_value c.slot_page_at-at.ensures _ c.is_expected_at.ensures r.g_value c.if-not-is_expected_at.false _ c.u16_at.ensures

pub returns : goal.returns
returns c = all_read _ _ _ _ _ _ c.loop-q.invariant c.loop-q-test.false
