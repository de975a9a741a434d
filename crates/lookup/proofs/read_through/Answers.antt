-- The whole answer is at all times the answer from here on: a batch that its filter or the search of its page passes over keeps it so.
use Rattle.std.proofs.Common.{◌≡◌, ◌+◌, ◌-◌, refl, sym, ◌∙◌, arith}
use Rattle.std.specs.Prelude.{unwrap_or}
use Rattle.model.specs.Page.{count_of, searched}
use Rattle.model.specs.Partition.{slot, batch_passes}
use Rattle.model.proofs.Heads.{head-fits}
use Rattle.model.proofs.Lookup.{compared-most}
use Rattle.model.proofs.Passing.{batch-asked}
use Rattle.model.proofs.Sizes.{sizes, slot-is-lt, partition-of-lt, page-of-lt}
use Rattle.head.proofs.Fields.{flushes-is, live-is}
use Rattle.partition.proofs.Inside.{list_inside}
use Rattle.geometry.proofs.Slots.{slot-start, slot-next}
use Rattle.lookup.proofs.Reading.{Expected, PageAt, page-at, page_in, stopped-at, stopped-key, stopped-behind, left-all, left-none, left-skip, left-bad, left-found, left-next}
use Rattle.lookup.proofs.read_through.Goals as goal
use Rattle.lookup.proofs.read_through.Goals.{After-slot_before-slot, After-passes, After-slot_page_at-at, After-is_expected_at-is_expected, After-count-behind, After-unwrap_or-stop}

pub read-head-requires : goal.read-head-requires
read-head-requires c = omega (arith, list_inside _ _ c.requires.whole)

pub nonzero_rem-slot : goal.nonzero_rem-slot
nonzero_rem-slot c = let z = sizes _ c.requires.whole.fine in omega arith

-- the head is the partition's, and its live number fits
pub batches-init : goal.batches-init
batches-init c =
    let z = sizes _ c.requires.whole.fine in
    let h = head-fits _ _ c.requires.part_value in
    let f = flushes-is c.read-head.ensures in
    let l = live-is c.read-head.ensures in
    record {
      few = omega (arith, h);
      flushed = omega (arith, h);
      slotted = slot-start c.args.g _;
      reads = omega arith;
      comparisons = omega arith;
      left = left-all _ _ _ _ _ _ _ l f;
    }

-- the slot is that of the turn's batch
slotted : (c : After-slot_before-slot) → c.slot_before-slot.result ≡ slot c.args.g (c.read-head.result.flushes - c.batches.age)
slotted c = c.slot_before-slot.ensures _ (omega arith) c.batches.invariant.slotted

slot_kept : (c : After-slot_before-slot) → c.slot_before-slot.result ≡ slot c.args.g (c.read-head.result.flushes - (c.batches.age + 1) + 1)
slot_kept c = slotted c ∙ slot-next c.args.g _ _ (omega arith)

pub passes-requires-clause-j_lt_kept : goal.passes-requires-clause-j_lt_kept
passes-requires-clause-j_lt_kept c = slot-is-lt _ c.requires.whole.fine _ (slotted c)

-- and so is the filter
tested : (c : After-passes) → let a = c.args in batch_passes a.g a.key a.part.now (c.read-head.result.flushes - c.batches.age) ≡ c.passes.result
tested c = batch-asked _ _ _ _ ∙ rw (c.passes.ensures, c.mix-x.ensures, c.slot_before-slot.ensures (c.read-head.result.flushes - c.batches.age) (omega arith) c.batches.invariant.slotted)

pub batches-preserved-then-not-passes : goal.batches-preserved-then-not-passes
batches-preserved-then-not-passes c =
    let at = goal.at.batches-preserved-then-not-passes c in
    let v = c.batches.invariant in
    record {
      few = omega arith;
      flushed = omega arith;
      slotted = slot_kept at.After-slot_before-slot;
      reads = omega arith;
      comparisons = omega arith;
      left = left-skip _ _ _ _ _ _ _ _ _ v.left (omega arith) (tested at.After-passes ∙ c.if-not-passes.true);
    }

pub slot_page_at-at-requires-clause-t_bound : goal.slot_page_at-at-requires-clause-t_bound
slot_page_at-at-requires-clause-t_bound c = rw c.partition_of-t.ensures (partition-of-lt _ c.requires.whole.fine _ (omega arith))

pub slot_page_at-at-requires-clause-j_lt_kept : goal.slot_page_at-at-requires-clause-j_lt_kept
slot_page_at-at-requires-clause-j_lt_kept c = slot-is-lt _ c.requires.whole.fine _ (slotted (goal.at.slot_page_at-at-requires-clause-j_lt_kept c).After-slot_before-slot)

pub slot_page_at-at-requires-clause-q_lt_pages : goal.slot_page_at-at-requires-clause-q_lt_pages
slot_page_at-at-requires-clause-q_lt_pages c = rw c.page_of-q.ensures (page-of-lt _ c.requires.whole.fine _)

-- the page begins where the definition says, inside flash
page : (c : After-slot_page_at-at) → let a = c.args in PageAt a.g a.key (c.read-head.result.flushes - c.batches.age) a.flash.now c.slot_page_at-at.result
page c =
    let n = c.read-head.result.flushes - c.batches.age in
    let slot_is = c.slot_before-slot.ensures n (omega arith) c.batches.invariant.slotted in
    page-at _ c.args.key n c.requires.whole.fine (omega arith) _ c.requires.g_in_bounds _ (rw (c.slot_page_at-at.ensures, slot_is, c.partition_of-t.ensures, c.page_of-q.ensures))

pub is_expected_at-is_expected-requires-clause-page_in_bounds : goal.is_expected_at-is_expected-requires-clause-page_in_bounds
is_expected_at-is_expected-requires-clause-page_in_bounds c = let p = page (goal.at.is_expected_at-is_expected-requires-clause-page_in_bounds c).After-slot_page_at-at in p.inside

-- it is the page that is examined
checked : (c : After-is_expected_at-is_expected) → let a = c.args in let n = c.read-head.result.flushes - c.batches.age in PageAt a.g a.key n a.flash.now c.slot_page_at-at.result → Expected a.g a.key n a.flash.now ≡ c.is_expected_at-is_expected.result
checked c p = rw (c.is_expected_at-is_expected.ensures, p.place, c.partition_of-t.ensures, c.page_of-q.ensures)

pub returns-then-not-is_expected : goal.returns-then-not-is_expected
returns-then-not-is_expected c =
    let at = goal.at.returns-then-not-is_expected c in
    let fails = checked at.After-is_expected_at-is_expected (page at.After-slot_page_at-at) ∙ c.if-not-is_expected.true in
    sym (left-bad _ _ _ _ _ _ _ _ _ c.batches.invariant.left (omega arith) (tested at.After-passes ∙ c.if-not-passes.false) fails)

pub overflow_add-e : goal.overflow_add-e
overflow_add-e c = let p = page (goal.at.overflow_add-e c).After-slot_page_at-at in omega (arith, p.small)

pub slice_bounds-page-end : goal.slice_bounds-page-end
slice_bounds-page-end c = let p = page (goal.at.slice_bounds-page-end c).After-slot_page_at-at in omega (arith, p.inside)

pub search-requires : goal.search-requires
search-requires c =
    let at = goal.at.search-requires c in
    let z = sizes _ c.requires.whole.fine in
    let p = page at.After-slot_page_at-at in
    let room = p.room (checked at.After-is_expected_at-is_expected p ∙ c.if-not-is_expected.false) in
    rw (p.own, p.long) (room, omega (arith, room))

-- ---- the page is searched, and gone through from where that stopped
pub count-behind-requires : goal.count-behind-requires
count-behind-requires c =
    let z = sizes _ c.requires.whole.fine in
    let p = page (goal.at.count-behind-requires c).After-slot_page_at-at in
    rw (p.own, p.long) (omega (arith, z))

-- its count is that of its used entries
entries : (c : After-count-behind) → let a = c.args in let n = c.read-head.result.flushes - c.batches.age in PageAt a.g a.key n a.flash.now c.slot_page_at-at.result → c.count-behind.result ≡ count_of (page_in a.g a.key n a.flash.now)
entries c p = rw p.own at c.count-behind.ensures

stopped : (c : After-unwrap_or-stop) → let a = c.args in let n = c.read-head.result.flushes - c.batches.age in PageAt a.g a.key n a.flash.now c.slot_page_at-at.result → c.unwrap_or-stop.result ≡ unwrap_or (searched a.key (page_in a.g a.key n a.flash.now)) (count_of (page_in a.g a.key n a.flash.now) + 1)
stopped c p = let found = rw p.own at c.search.ensures in let used = rw p.own at c.count-behind.ensures in c.unwrap_or-stop.ensures ∙ rw (found.0, used)

pub overflow_add-behind : goal.overflow_add-behind
overflow_add-behind c =
    let at = goal.at.overflow_add-behind c in
    let z = sizes _ c.requires.whole.fine in
    let p = page at.After-slot_page_at-at in
    omega (arith, p.room (checked at.After-is_expected_at-is_expected p ∙ c.if-not-is_expected.false), entries at.After-count-behind p)

pub overflow_mul-i : goal.overflow_mul-i
overflow_mul-i c =
    let at = goal.at.overflow_mul-i c in
    let z = sizes _ c.requires.whole.fine in
    let p = page at.After-slot_page_at-at in
    omega (arith, p.room (checked at.After-is_expected_at-is_expected p ∙ c.if-not-is_expected.false), entries at.After-count-behind p)

pub u64_at-requires : goal.u64_at-requires
u64_at-requires c =
    let at = goal.at.u64_at-requires c in
    let p = page at.After-slot_page_at-at in
    let room = p.room (checked at.After-is_expected_at-is_expected p ∙ c.if-not-is_expected.false) in
    let used = entries at.After-count-behind p in
    rw (p.own, p.long) (omega (arith, room, used))

pub value_at-requires : goal.value_at-requires
value_at-requires c =
    let at = goal.at.value_at-requires c in
    let p = page at.After-slot_page_at-at in
    let room = p.room (checked at.After-is_expected_at-is_expected p ∙ c.if-not-is_expected.false) in
    let used = entries at.After-count-behind p in
    rw (p.own, p.long) (omega (arith, room, used))

-- the entry where the search stopped has the key
pub returns-then-u64_at-key : goal.returns-then-u64_at-key
returns-then-u64_at-key c =
    let at = goal.at.returns-then-u64_at-key c in
    let p = page at.After-slot_page_at-at in
    let fits = checked at.After-is_expected_at-is_expected p ∙ c.if-not-is_expected.false in
    let passed = tested at.After-passes ∙ c.if-not-passes.false in
    let found = rw p.own at c.search.ensures in
    let used = entries at.After-count-behind p in
    let here = stopped-at _ _ _ (c.loop-i.invariant ∙ stopped at.After-unwrap_or-stop p) (omega (arith, used)) in
    rw (c.value_at.ensures, p.own) (sym (left-found _ _ _ _ _ _ _ _ _ c.batches.invariant.left (omega arith) passed fits _ found.1 found.2 _ here))

-- so the loop does not go round
pub loop-i-preserved : goal.loop-i-preserved
loop-i-preserved c =
    let at = goal.at.loop-i-preserved c in
    let p = page at.After-slot_page_at-at in
    let used = entries at.After-count-behind p in
    let key = stopped-key _ _ _ (c.loop-i.invariant ∙ stopped at.After-unwrap_or-stop p) (omega (arith, used)) in
    absurd (c.if-u64_at-key.false (c.u64_at.ensures ∙ rw p.own key))

pub batches-preserved : goal.batches-preserved
batches-preserved c =
    let at = goal.at.batches-preserved c in
    let z = sizes _ c.requires.whole.fine in
    let p = page at.After-slot_page_at-at in
    let fits = checked at.After-is_expected_at-is_expected p ∙ c.if-not-is_expected.false in
    let passed = tested at.After-passes ∙ c.if-not-passes.false in
    let found = rw p.own at c.search.ensures in
    let used = entries at.After-count-behind p in
    let lacks = stopped-behind _ _ _ (c.loop-i.invariant ∙ stopped at.After-unwrap_or-stop p) (omega (arith, used)) in
    record {
      few = omega arith;
      flushed = omega arith;
      slotted = slot_kept at.After-slot_before-slot;
      reads = omega arith;
      comparisons = omega (arith, found, compared-most c.args.key (page_in c.args.g c.args.key (c.read-head.result.flushes - c.batches.age) c.args.flash.now), p.room fits);
      left = left-next _ _ _ _ _ _ _ _ _ c.batches.invariant.left (omega arith) passed fits _ found.1 found.2 lacks;
    }

pub returns : goal.returns
returns c = sym (left-none _ _ _ _ _ _ _ _ _ c.batches.invariant.left (omega arith))
