use Rattle.std.proofs.Common.{◌≡◌, ◌<◌, ◌≤◌, ◌-◌, ◌+◌, ℕ, List, true, not, sym, ◌∙◌, ap, arith}
use Rattle.model.specs.declared.Geometry.{Geometry}
use Rattle.model.specs.Keys.{page_of}
use Rattle.model.specs.Page.{expected}
use Rattle.model.specs.Partition.{head_of, flushes_of, is_live}
use Rattle.model.specs.Batch.{batch_page}
use Rattle.model.proofs.Heads.{live-bounds, bounds-live}
use Rattle.model.proofs.Sizes.{page-of-lt}
use Rattle.head.proofs.Fields.{flushes-is}
use Rattle.partition.proofs.Inside.{list_inside}
use Rattle.sources.specs.Readable.{Readable}
use Rattle.sources.proofs.Sources.{batch-expected}
use Rattle.answering.proofs.Asking.{asking-all, asking-none, asking-next, asking-held}
use Rattle.answering.proofs.is_superseded.Goals as goal

-- a batch that is younger than a live one is live, and its page is the one expected
module _ (g : Geometry) (t : ℕ) (p f : List ℕ) (r : Readable g t p f) (n : ℕ) (alive : is_live (head_of p) n ≡ true) (m : ℕ) (l : n < m) (h : m ≤ flushes_of p) where
  younger : is_live (head_of p) m ≡ true
  younger = let b = live-bounds (head_of p) n alive in bounds-live (head_of p) m (omega arith) h (omega arith)

  whole : (k : ℕ) → expected g t m (page_of g k) (batch_page g t f m (page_of g k)) ≡ true
  whole k = batch-expected g t p f r m (page_of g k) younger (page-of-lt g r.whole.fine k)

pub read-requires : goal.read-requires
read-requires c = omega (arith, list_inside _ _ c.requires.readable.whole)

pub overflow_sub-younger : goal.overflow_sub-younger
overflow_sub-younger c = omega (arith, flushes-is c.read.ensures, live-bounds _ _ c.requires.n_value)

pub loop-age-init : goal.loop-age-init
loop-age-init c = asking-all _ _ _ _ _ _ (omega (arith, flushes-is c.read.ensures, live-bounds _ _ c.requires.n_value))

pub returns-then-has_key : goal.returns-then-has_key
returns-then-has_key c =
    let p = c.requires in
    let next = c.args.n + (c.read.result.flushes - c.args.n) - c.loop-age.age in
    let page = whole _ _ _ _ p.readable _ p.n_value next (omega arith) (omega (arith, flushes-is c.read.ensures)) c.args.key in
    ap not (sym (asking-held c.loop-age.invariant (omega arith) _ p.key_value page (sym c.has_key.ensures ∙ c.if-has_key.true)))

pub loop-age-preserved : goal.loop-age-preserved
loop-age-preserved c =
    let p = c.requires in
    let next = c.args.n + (c.read.result.flushes - c.args.n) - c.loop-age.age in
    let page = whole _ _ _ _ p.readable _ p.n_value next (omega arith) (omega (arith, flushes-is c.read.ensures)) c.args.key in
    let older : c.args.n + (c.read.result.flushes - c.args.n) - (c.loop-age.age + 1) ≡ next - 1 = omega arith in
    rw older (asking-next c.loop-age.invariant (omega arith) _ p.key_value page (sym c.has_key.ensures ∙ c.if-has_key.false))

pub has_key-requires-clause-n_value : goal.has_key-requires-clause-n_value
has_key-requires-clause-n_value c = let p = c.requires in younger _ _ _ _ p.readable _ p.n_value _ (omega arith) (omega (arith, flushes-is c.read.ensures))

pub returns : goal.returns
returns c = ap not (sym (asking-none c.loop-age.invariant (omega arith)))
