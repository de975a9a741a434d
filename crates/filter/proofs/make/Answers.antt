-- The filter becomes zero first, and lies in front of the buffer pages, which each turn reads as they were.
use Rattle.std.proofs.Common.{◌≡◌, ◌+◌, ◌≤◌, ℕ, List, length, refl, sym, ◌∙◌, arith}
use Rattle.std.proofs.lemmas.List.Edits.{sets}
use lib.ListN.{length-replicate}
use Rattle.model.specs.declared.Geometry.{Geometry}
use Rattle.model.specs.Bytes.{zeros, within}
use Rattle.model.specs.Geometry.{filter_size, buffer_at}
use Rattle.model.specs.Filter.{with_pages}
use Rattle.model.proofs.Parts.{within-id, within-set}
use Rattle.model.proofs.Sizes.{filter-fits, filter-before-buffer, buffer-fits, buffer-end}
use Rattle.model.proofs.Bits.{buffer-kept, page-added, pages-added}
use Rattle.filter.proofs.make.Goals as goal

-- what the filter is made
zeroed : (g : Geometry) (at size : ℕ) (part s : List ℕ) → size ≡ filter_size g → s ≡ sets part at (zeros size) → s ≡ within at (filter_size g) (λ _. zeros (filter_size g)) part
zeroed g at size part s e f = f ∙ rw e (sym (within-set _ _ _ _ (length-replicate _ 0)))

pub zero-requires : goal.zero-requires
zero-requires c = let g = c.args.g in omega (arith, filter-fits g c.args.j c.requires.j_lt_kept, buffer-end g)

pub loop-q-init : goal.loop-q-init
unfolding with_pages
loop-q-init c = let g = c.args.g in sym (within-id _ _ _ _ (omega (arith, filter-fits g c.args.j c.requires.j_lt_kept, buffer-end g)) refl)

pub add_page-requires-clause-g_bound : goal.add_page-requires-clause-g_bound
add_page-requires-clause-g_bound c = omega (arith, filter-before-buffer c.args.g c.args.j c.loop-q.q c.requires.j_lt_kept)

pub add_page-requires-clause-page_in_bounds : goal.add_page-requires-clause-page_in_bounds
add_page-requires-clause-page_in_bounds c = omega (arith, buffer-fits c.args.g c.loop-q.q c.loop-q-test.true)

pub add_page-requires-clause-s_bound : goal.add_page-requires-clause-s_bound
add_page-requires-clause-s_bound c =
    let g = c.args.g in
    let q = c.loop-q.q in
    let before : c.filter_at-at.result + filter_size g ≤ buffer_at g q = omega (arith, filter-before-buffer g c.args.j q c.requires.j_lt_kept) in
    let inside : buffer_at g q + g.page ≤ length c.args.part.now = omega (arith, buffer-fits g q c.loop-q-test.true) in
    rw (c.buffer_at.ensures, buffer-kept _ _ _ _ _ q before (omega arith) c.loop-q.invariant, buffer-kept _ _ _ _ _ q before inside (zeroed g _ _ _ _ c.filter_size-size.ensures c.zero.ensures))
    (c.requires.by_index q c.loop-q-test.true)

pub loop-q-preserved : goal.loop-q-preserved
loop-q-preserved c =
    let g = c.args.g in
    let q = c.loop-q.q in
    let before : c.filter_at-at.result + filter_size g ≤ buffer_at g q = omega (arith, filter-before-buffer g c.args.j q c.requires.j_lt_kept) in
    page-added _ _ _ _ q before (omega (arith, buffer-fits g q c.loop-q-test.true)) c.loop-q.invariant c.buffer_at.ensures c.add_page.ensures

pub returns : goal.returns
returns c =
    let g = c.args.g in
    let e : c.loop-q.q ≡ g.pages = omega arith in
    let before : c.filter_at-at.result + filter_size g ≤ buffer_at g 0 = omega (arith, filter-fits g c.args.j c.requires.j_lt_kept) in
    rw (← c.filter_at-at.ensures) (rw e at c.loop-q.invariant ∙ pages-added _ _ _ _ before (omega arith) (zeroed g _ _ _ _ c.filter_size-size.ensures c.zero.ensures))
