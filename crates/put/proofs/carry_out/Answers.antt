-- Each arm does what its plan says; behind the flush the key's page has room.
use Rattle.std.proofs.Common.{◌∙◌, arith, rules}
use Rattle.put.proofs.Calling.{Ready, kept, flushed-first, can-flush, can_store, stores}
use Rattle.put.proofs.carry_out.Goals as goal
use Rattle.put.proofs.carry_out.Goals.{in-Store, in-Flush}

pub apply_at-requires-clause-flushable : goal.apply_at-requires-clause-flushable
apply_at-requires-clause-flushable c =
    rw c.partition_of.ensures (can-flush _ _ _ c.requires.table _ _ (omega arith) (λ i. search rules) _ (rw c.in-Flush.is at c.requires.plan_value))

-- ---- where the arms meet
pub store_unlisted_at-requires : goal.store_unlisted_at-requires
store_unlisted_at-requires c =
    let a = c.args in
    let t = c.requires.table in
    let met = c.match-plan in
    let ready : Ready a.g a.memory.now a.flash.now a.key a.value met.memory met.flash met.less met.pages =
    elim met.branch [
      | in-Store w ↦ kept (rw w.in-Store.is at c.requires.plan_value) w.memory-is w.flash-is w.less-is w.pages-is
      | in-Flush w ↦ flushed-first (rw w.less-is (rw w.in-Flush.is at c.requires.plan_value)) (w.memory-is ∙ rw w.partition_of.ensures at w.apply_at.ensures.0) (w.flash-is ∙ rw w.partition_of.ensures at w.apply_at.ensures.1) w.pages-is
    ] in
    let can = can_store _ _ _ t a.key a.value (omega arith) (λ i. search rules) _ _ _ _ ready in
    record { g_value = t.fine; g_in_bounds = omega (arith, met.auto.memory, t.memory_fits); storable = can.0; less_bound = can.1 }

pub returns : goal.returns
returns c =
    let a = c.args in
    let met = c.match-plan in
    let ready : Ready a.g a.memory.now a.flash.now a.key a.value met.memory met.flash met.less met.pages =
    elim met.branch [
      | in-Store w ↦ kept (rw w.in-Store.is at c.requires.plan_value) w.memory-is w.flash-is w.less-is w.pages-is
      | in-Flush w ↦ flushed-first (rw w.less-is (rw w.in-Flush.is at c.requires.plan_value)) (w.memory-is ∙ rw w.partition_of.ensures at w.apply_at.ensures.0) (w.flash-is ∙ rw w.partition_of.ensures at w.apply_at.ensures.1) w.pages-is
    ] in
    stores _ _ _ c.requires.table _ _ (omega arith) (λ i. search rules) _ _ _ _ _ ready c.store_unlisted_at.ensures
