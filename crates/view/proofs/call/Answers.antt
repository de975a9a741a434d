-- Every refusal before flash is read is the checks' own, and what is shown lies where the definition says.
use Rattle.std.proofs.Common.{◌<◌, ◌≤◌, sym, ◌∙◌, arith, lt-ltb, le-ltb}
use Rattle.std.proofs.lemmas.Result.{err_from_is_err_and}
use Rattle.model.specs.Geometry.{partitions}
use Rattle.model.specs.Answers.{unread}
use Rattle.model.proofs.Checks.{view-4}
use Rattle.model.proofs.Calls.{checks-view, result-view, effect-view}
use Rattle.answers.proofs.Performing.{refusing, looking}
use Rattle.partition.proofs.Lending.{partition-whole}
use Rattle.view.proofs.Showing.{shown-inside}
use Rattle.view.proofs.call.Goals as goal

pub returns-then-partition_count-t-clause-performs : goal.returns-then-partition_count-t-clause-performs
returns-then-partition_count-t-clause-performs c =
    let w = c.requires in
    let h : partitions c.args.g ≤ c.args.t = omega arith in
    rw c.into.ensures (refusing _ _ _ (unread 4) (checks-view _ _ w.own w.opens _ _ _ ∙ view-4 _ _ _ _ _ (rw (le-ltb _ _ h))))

pub returns-then-g-q-clause-performs : goal.returns-then-g-q-clause-performs
returns-then-g-q-clause-performs c =
    let w = c.requires in
    let l : c.args.t < partitions c.args.g = omega arith in
    let h : c.args.g.pages ≤ c.args.q = omega arith in
    rw c.into-then-g-q.ensures (refusing _ _ _ (unread 4) (checks-view _ _ w.own w.opens _ _ _ ∙ view-4 _ _ _ _ _ (rw (lt-ltb _ _ l, le-ltb _ _ h))))

pub decide-requires-clause-whole : goal.decide-requires-clause-whole
decide-requires-clause-whole c =
    let w = c.requires in
    let l : c.args.t < partitions c.args.g = omega arith in
    rw c.part_of.ensures (partition-whole _ _ w.fine w.memory_fits _ l)

pub returns-in_err-decide-clause-performs : goal.returns-in_err-decide-clause-performs
returns-in_err-decide-clause-performs c =
    let w = c.requires in
    let p = err_from_is_err_and c.from_residual.result c.from_residual.ensures.1 in
    rw (p.1, p.2) (refusing _ _ _ _ (checks-view _ _ w.own w.opens _ _ _ ∙ rw c.part_of.ensures at (sym c.in_err-decide.ensures)))

pub returns-clause-performs : goal.returns-clause-performs
returns-clause-performs c =
    let w = c.requires in
    looking _ _ _ _ (checks-view _ _ w.own w.opens _ _ _ ∙ rw c.part_of.ensures at (sym c.in_ok-decide.ensures)) (result-view _ _ w.own _ _ _) c.locate.ensures (effect-view _ _ _ _)

pub returns-clause-inside : goal.returns-clause-inside
returns-clause-inside c =
    let w = c.requires in
    let l : c.args.t < partitions c.args.g = omega arith in
    let h : c.args.q < c.args.g.pages = omega arith in
    shown-inside _ _ _ _ c.args.memory.now _ w.fine w.memory_fits w.flash_fits l h c.locate.result c.locate.ensures
