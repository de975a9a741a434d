use Rattle.std.proofs.Common.{arith, sym, ◌∙◌, ap}
use native.Mathlib.Nat.{sub-zero}
use Rattle.model.specs.Search.{is_some}
use Rattle.model.specs.Page.{count_of}
use Rattle.model.specs.Partition.{buffer_of}
use Rattle.model.proofs.Searching.{first-here, first_next, first-end}
use Rattle.buffer.proofs.Used.{used, some-entry, no-entry}
use Rattle.buffer.proofs.is_in_use.Goals as goal

pub loop-q-init : goal.loop-q-init
loop-q-init c = rw sub-zero

pub returns-then-count-ne0 : goal.returns-then-count-ne0
returns-then-count-ne0 c =
    let a = c.args in
    let l = c.loop-q in
    sym (l.invariant ∙ ap is_some (first-here (used a.g a.part.now) a.g.pages l.q (omega arith) (some-entry (count_of (buffer_of a.g a.part.now l.q)) (omega arith))))

pub loop-q-preserved : goal.loop-q-preserved
loop-q-preserved c =
    let a = c.args in
    let l = c.loop-q in
    l.invariant ∙ ap is_some (first_next (used a.g a.part.now) a.g.pages l.q (omega arith) (no-entry (count_of (buffer_of a.g a.part.now l.q)) (omega arith)))

pub returns : goal.returns
returns c = sym (c.loop-q.invariant ∙ ap is_some (first-end _ _ _ (omega arith)))
