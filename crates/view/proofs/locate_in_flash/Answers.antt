-- The page of the batch's slot lies inside flash, and its head decides.
use Rattle.std.proofs.Common.{◌≡◌, arith}
use Rattle.model.specs.Geometry.{slot_page_at}
use Rattle.model.specs.Partition.{slot}
use Rattle.model.proofs.Sizes.{slot_lt, slot-is-lt, slot-page-fits}
use Rattle.view.proofs.locate_in_flash.Goals as goal

pub slot_page_at-at-requires-clause-j_lt_kept : goal.slot_page_at-at-requires-clause-j_lt_kept
slot_page_at-at-requires-clause-j_lt_kept c = slot-is-lt _ c.requires.g_value _ c.slot_of.ensures

pub is_expected_at-requires-clause-page_in_bounds : goal.is_expected_at-requires-clause-page_in_bounds
is_expected_at-requires-clause-page_in_bounds c =
    let a = c.args in
    let w = c.requires in
    let spot : c.slot_page_at-at.result ≡ slot_page_at a.g a.t (slot a.g a.n) a.q = rw (c.slot_page_at-at.ensures, c.slot_of.ensures) in
    omega (arith, slot-page-fits a.g a.t (slot a.g a.n) a.q w.t_bound (slot_lt _ w.g_value _) w.q_lt_pages)
