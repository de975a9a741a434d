use Rattle.std.proofs.Common.{◌≡◌, ℕ, Bool, List, not, sym, ◌∙◌, ap, arith}
use Rattle.model.specs.declared.Geometry.{Geometry}
use Rattle.model.specs.Bytes.{mid}
use Rattle.model.specs.Geometry.{slot_page_at}
use Rattle.model.specs.Search.{is_some}
use Rattle.model.specs.Page.{expected}
use Rattle.model.specs.Partition.{slot}
use Rattle.model.specs.Batch.{batch_page}
use Rattle.model.proofs.Searching.{first-here, first_next, first-end}
use Rattle.model.proofs.Sizes.{slot_lt, slot-is-lt, slot-page-fits}
use Rattle.sources.proofs.is_failed.Goals as goal

-- the page that is examined is the batch's
examined : (g : Geometry) (t n q : ℕ) (f : List ℕ) {at j : ℕ} {r : Bool} → r ≡ expected g t n q (mid at g.page f) → at ≡ slot_page_at g t j q → j ≡ slot g n → r ≡ expected g t n q (batch_page g t f n q)
examined g t n q f e h k = rw (e, h, k)

pub slot_page_at-at-requires-clause-j_lt_kept : goal.slot_page_at-at-requires-clause-j_lt_kept
slot_page_at-at-requires-clause-j_lt_kept c = slot-is-lt _ c.requires.g_value _ c.slot_of-slot.ensures

pub is_expected_at-requires-clause-page_in_bounds : goal.is_expected_at-requires-clause-page_in_bounds
is_expected_at-requires-clause-page_in_bounds c =
    let a = c.args in
    let p = c.requires in
    rw (c.slot_page_at-at.ensures, c.slot_of-slot.ensures) (omega (arith, slot-page-fits a.g a.t (slot a.g a.n) c.loop-q.q p.t_bound (slot_lt _ p.g_value _) c.loop-q-test.true))

pub returns-then-not-is_expected_at : goal.returns-then-not-is_expected_at
returns-then-not-is_expected_at c =
    let e = examined _ _ _ _ _ c.is_expected_at.ensures c.slot_page_at-at.ensures c.slot_of-slot.ensures in
    sym (c.loop-q.invariant ∙ ap is_some (first-here _ _ _ c.loop-q-test.true (ap not (sym e ∙ c.if-not-is_expected_at.true))))

pub loop-q-preserved : goal.loop-q-preserved
loop-q-preserved c =
    let e = examined _ _ _ _ _ c.is_expected_at.ensures c.slot_page_at-at.ensures c.slot_of-slot.ensures in
    c.loop-q.invariant ∙ ap is_some (first_next _ _ _ c.loop-q-test.true (ap not (sym e ∙ c.if-not-is_expected_at.false)))

pub returns : goal.returns
returns c = sym (c.loop-q.invariant ∙ ap is_some (first-end _ _ _ c.loop-q-test.false))
