-- The filter that is asked is the batch's own, and the page that is searched the key's page of the batch.
use Rattle.std.proofs.Common.{◌≡◌, ◌+◌, ◌*◌, ◌-◌, ◌≤◌, ℕ, Bool, true, List, length, ◌∙◌, arith}
use Rattle.std.proofs.Math.Nat.{add-sub_cancel_left}
use Rattle.model.specs.declared.Geometry.{Geometry}
use Rattle.model.specs.Bytes.{mid}
use Rattle.model.specs.Geometry.{slot_page_at}
use Rattle.model.specs.Keys.{page_of, mixed}
use Rattle.model.specs.Filter.{passes}
use Rattle.model.specs.Partition.{head_of, slot, slot_bits, is_live, batch_passes}
use Rattle.model.specs.Page.{count_of}
use Rattle.model.specs.Batch.{batch_page}
use Rattle.model.specs.Answers.{batch}
use Rattle.model.proofs.Heads.{live-bounds}
use Rattle.model.proofs.Passing.{batch-asked}
use Rattle.model.proofs.Sizes.{sizes, page-of-lt, slot_lt, slot-is-lt, slot-page-fits, flash-max}
use Rattle.sources.specs.Readable.{Readable}
use Rattle.sources.proofs.Sources.{batch-inside, source-page-fits}
use Rattle.answering.proofs.has_key.Goals as goal

-- what the filter answers
tested : (g : Geometry) (k n : ℕ) (p : List ℕ) {j x : ℕ} {r : Bool} → r ≡ passes g x (slot_bits g p j) → j ≡ slot g n → x ≡ mixed k → batch_passes g k p n ≡ r
tested g k n p e j x = batch-asked g k p n ∙ rw (e, j, x)

-- where the page lies
record Lent (g : Geometry) (t : ℕ) (f : List ℕ) (n q at : ℕ) : Type 0 where
  inside : at + g.page ≤ length f
  below : at + g.page ≤ 2147483648
  own : mid at (at + g.page - at) f ≡ batch_page g t f n q
  fits : 16 + 16 * count_of (batch_page g t f n q) ≤ length (batch_page g t f n q)

lent : {g : Geometry} {t : ℕ} {p f : List ℕ} → Readable g t p f → {n : ℕ} → is_live (head_of p) n ≡ true → (k : ℕ) {j q at : ℕ} → j ≡ slot g n → q ≡ page_of g k → at ≡ slot_page_at g t j q → Lent g t f n (page_of g k) at
lent {g} {t} {p} {f} r {n} alive k e h a =
    let ok = r.whole.fine in
    let l = page-of-lt g ok k in
    let here = rw (e, h) at a in
    let page = source-page-fits g t p f r (batch n) (page_of g k) alive l in
    record {
      inside = omega (arith, here, batch-inside g t p f r n (page_of g k) l);
      below = omega (arith, here, slot-page-fits g t (slot g n) (page_of g k) r.below (slot_lt g ok n) l, flash-max g ok);
      own = rw (add-sub_cancel_left, here);
      fits = omega (arith, page.0, page.1, (sizes g ok).page-is);
    }

pub slot_of-slot-requires-clause-le_n : goal.slot_of-slot-requires-clause-le_n
slot_of-slot-requires-clause-le_n c = omega (arith, live-bounds _ _ c.requires.n_value)

pub passes-requires-clause-j_lt_kept : goal.passes-requires-clause-j_lt_kept
passes-requires-clause-j_lt_kept c = slot-is-lt _ c.requires.readable.whole.fine _ c.slot_of-slot.ensures

pub returns-then-not-passes : goal.returns-then-not-passes
returns-then-not-passes c = rw (tested _ _ _ _ c.passes.ensures c.slot_of-slot.ensures c.requires.x_value ∙ c.if-not-passes.true)

pub slot_page_at-a-requires-clause-j_lt_kept : goal.slot_page_at-a-requires-clause-j_lt_kept
slot_page_at-a-requires-clause-j_lt_kept c = slot-is-lt _ c.requires.readable.whole.fine _ c.slot_of-slot.ensures

pub slot_page_at-a-requires-clause-q_lt_pages : goal.slot_page_at-a-requires-clause-q_lt_pages
slot_page_at-a-requires-clause-q_lt_pages c = omega (arith, page-of-lt c.args.g c.requires.readable.whole.fine c.args.key)

pub overflow_add-e : goal.overflow_add-e
overflow_add-e c = omega (arith, lent c.requires.readable c.requires.n_value c.args.key c.slot_of-slot.ensures c.page_of.ensures c.slot_page_at-a.ensures)

pub slice_bounds-search-end : goal.slice_bounds-search-end
slice_bounds-search-end c = omega (arith, lent c.requires.readable c.requires.n_value c.args.key c.slot_of-slot.ensures c.page_of.ensures c.slot_page_at-a.ensures)

pub search-requires : goal.search-requires
search-requires c =
    let l = lent c.requires.readable c.requires.n_value c.args.key c.slot_of-slot.ensures c.page_of.ensures c.slot_page_at-a.ensures in
    rw l.own l.fits

pub returns : goal.returns
returns c =
    let l = lent c.requires.readable c.requires.n_value c.args.key c.slot_of-slot.ensures c.page_of.ensures c.slot_page_at-a.ensures in
    let passed = tested _ _ _ _ c.passes.ensures c.slot_of-slot.ensures c.requires.x_value ∙ c.if-not-passes.false in
    rw (c.is_some.ensures, c.search.ensures, l.own, passed)
