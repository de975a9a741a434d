-- The tests are those of `view_checks`, in its order; refusal 4 is no longer possible.
use Rattle.std.proofs.Common.{ℕ, ◌<◌, ◌≡◌, Bool, false, not, List, sym, ◌∙◌, eq-eqb, ne_eqb, arith}
use Rattle.std.specs.Prelude.{None}
use Rattle.model.specs.declared.Geometry.{Geometry}
use Rattle.model.specs.Geometry.{partitions}
use Rattle.model.specs.Partition.{head_of, is_live}
use Rattle.model.specs.Refusals.{refuse_if, head_overfull}
use Rattle.model.specs.View.{view_checks}
use Rattle.model.proofs.Heads.{head-fits}
use Rattle.model.proofs.Checks.{view-12, view-12-page, view-last}
use Rattle.partition.proofs.Inside.{list_inside}
use Rattle.view.proofs.decide.Goals as goal

-- of a batch the last test decides
of-batch : (g : Geometry) (t q n : ℕ) (p : List ℕ) → t < partitions g → q < g.pages → head_overfull g (head_of p) ≡ false → (n ≡ 0 → ⊥) → (live : Bool) → is_live (head_of p) n ≡ live → view_checks g t q n p ≡ refuse_if (not live) 17 None
of-batch g t q n p below page fits other live e =
    let z = ne_eqb n 0 other in
    view-last g t q n p below page fits (rw z) ∙ rw (z, e)

pub read-head-requires : goal.read-head-requires
read-head-requires c = omega (arith, list_inside _ _ c.requires.whole)

pub returns-then-is_overfull : goal.returns-then-is_overfull
returns-then-is_overfull c =
    let w = c.requires in
    sym (view-12 _ _ _ _ _ w.t_bound w.q_lt_pages (rw c.read-head.ensures at (sym c.is_overfull.ensures ∙ c.if-is_overfull.true)))

pub returns-then-is_page_overfull : goal.returns-then-is_page_overfull
returns-then-is_page_overfull c =
    let w = c.requires in
    let fits = rw c.read-head.ensures at (sym c.is_overfull.ensures ∙ c.if-is_overfull.false) in
    sym (view-12-page _ _ _ _ _ w.t_bound w.q_lt_pages fits c.if-n-eq0.true (sym c.is_page_overfull.ensures ∙ c.if-is_page_overfull.true))

pub returns-then-n-eq0 : goal.returns-then-n-eq0
returns-then-n-eq0 c =
    let w = c.requires in
    let fits = rw c.read-head.ensures at (sym c.is_overfull.ensures ∙ c.if-is_overfull.false) in
    let zero = eq-eqb _ _ c.if-n-eq0.true in
    sym (view-last _ _ _ _ _ w.t_bound w.q_lt_pages fits (rw zero (sym c.is_page_overfull.ensures ∙ c.if-is_page_overfull.false)) ∙ rw zero)

pub is_live-requires : goal.is_live-requires
is_live-requires c = omega (arith, (head-fits _ _ (sym c.is_overfull.ensures ∙ c.if-is_overfull.false)).flushed)

pub returns-then-not-is_live : goal.returns-then-not-is_live
returns-then-not-is_live c =
    let w = c.requires in
    let fits = rw c.read-head.ensures at (sym c.is_overfull.ensures ∙ c.if-is_overfull.false) in
    let live = rw c.read-head.ensures at (sym c.is_live.ensures ∙ c.if-not-is_live.true) in
    sym (of-batch _ _ _ _ _ w.t_bound w.q_lt_pages fits c.if-n-eq0.false _ live)

pub returns : goal.returns
returns c =
    let w = c.requires in
    let fits = rw c.read-head.ensures at (sym c.is_overfull.ensures ∙ c.if-is_overfull.false) in
    let live = rw c.read-head.ensures at (sym c.is_live.ensures ∙ c.if-not-is_live.false) in
    sym (of-batch _ _ _ _ _ w.t_bound w.q_lt_pages fits c.if-n-eq0.false _ live)
