-- Every refusal is the checks' own, and what passes them has room for its text.
use Rattle.std.proofs.Common.{◌≤◌, ◌<◌, sym, ◌∙◌, ap, arith}
use Rattle.std.proofs.lemmas.Result.{err_from_is_err_and}
use Rattle.model.specs.Geometry.{partitions}
use Rattle.model.specs.Answers.{unread, done}
use Rattle.model.proofs.Checks.{text-4}
use Rattle.model.proofs.Calls.{checks-text, result-text, effect-text, reply-refused, reply-accepted, text-written, text-unwritten}
use Rattle.answers.proofs.Performing.{refusing, looking}
use Rattle.partition.proofs.Lending.{partition-whole}
use Rattle.text.proofs.Deciding.{refuses, passed, nothing-written, readable}
use Rattle.text.proofs.call.Goals as goal

pub returns-then-partition_count-t-clause-performs : goal.returns-then-partition_count-t-clause-performs
returns-then-partition_count-t-clause-performs c =
    let w = c.requires in
    let h : partitions c.args.g ≤ c.args.t = omega arith in
    rw c.into.ensures (refusing _ _ _ (unread 4) (checks-text _ _ w.own w.opens _ _ ∙ text-4 _ _ _ _ _ h))

pub returns-then-partition_count-t-clause-text_after : goal.returns-then-partition_count-t-clause-text_after
returns-then-partition_count-t-clause-text_after c =
    let w = c.requires in
    let h : partitions c.args.g ≤ c.args.t = omega arith in
    sym (text-unwritten _ _ _ _ _ (reply-refused _ _ _ (checks-text _ _ w.own w.opens _ _ ∙ text-4 _ _ _ _ _ h)))

pub decide-requires-clause-whole : goal.decide-requires-clause-whole
decide-requires-clause-whole c =
    let w = c.requires in
    let l : c.args.t < partitions c.args.g = omega arith in
    rw c.part_of-part.ensures (partition-whole _ _ w.fine w.memory_fits _ l)

pub returns-in_err-length-clause-performs : goal.returns-in_err-length-clause-performs
returns-in_err-length-clause-performs c =
    let w = c.requires in
    let p = err_from_is_err_and c.from_residual.result c.from_residual.ensures.1 in
    let refused = refuses _ _ _ (rw c.part_of-part.ensures at c.in_err-length.ensures) in
    rw (p.1, p.2) (refusing _ _ _ _ (checks-text _ _ w.own w.opens _ _ ∙ refused))

pub returns-in_err-length-clause-text_after : goal.returns-in_err-length-clause-text_after
returns-in_err-length-clause-text_after c =
    let w = c.requires in
    let refused = refuses _ _ _ (rw c.part_of-part.ensures at c.in_err-length.ensures) in
    sym (text-unwritten _ _ _ _ _ (reply-refused _ _ _ (checks-text _ _ w.own w.opens _ _ ∙ refused)))

pub write-requires : goal.write-requires
write-requires c =
    let w = c.requires in
    let l : c.args.t < partitions c.args.g = omega arith in
    (readable _ _ _ _ _ l (rw c.part_of-part.ensures (partition-whole _ _ w.fine w.memory_fits _ l)) w.flash_fits (passed _ _ _ c.in_ok-length.ensures).0).0

pub returns-then-length-eq0-clause-performs : goal.returns-then-length-eq0-clause-performs
returns-then-length-eq0-clause-performs c =
    let w = c.requires in
    let told = passed _ _ _ (rw c.part_of-part.ensures at c.in_ok-length.ensures) in
    looking _ _ _ _ (checks-text _ _ w.own w.opens _ _ ∙ told.0) (result-text _ _ w.own _ _) (ap done (omega (arith, told.1))) (effect-text _ _ _)

pub returns-then-length-eq0-clause-text_after : goal.returns-then-length-eq0-clause-text_after
returns-then-length-eq0-clause-text_after c =
    let w = c.requires in
    let told = passed _ _ _ (rw c.part_of-part.ensures at c.in_ok-length.ensures) in
    rw (text-written _ _ w.own _ _ (reply-accepted _ _ (checks-text _ _ w.own w.opens _ _ ∙ told.0) ∙ result-text _ _ w.own _ _)) (nothing-written _ _ (sym told.1 ∙ omega arith))

pub returns-clause-performs : goal.returns-clause-performs
returns-clause-performs c =
    let w = c.requires in
    let told = passed _ _ _ (rw c.part_of-part.ensures at c.in_ok-length.ensures) in
    looking _ _ _ _ (checks-text _ _ w.own w.opens _ _ ∙ told.0) (result-text _ _ w.own _ _) (ap done told.1) (effect-text _ _ _)

pub returns-clause-text_after : goal.returns-clause-text_after
returns-clause-text_after c =
    let w = c.requires in
    let told = passed _ _ _ (rw c.part_of-part.ensures at c.in_ok-length.ensures) in
    let l : c.args.t < partitions c.args.g = omega arith in
    let fits = (readable _ _ _ _ _ l (rw c.part_of-part.ensures (partition-whole _ _ w.fine w.memory_fits _ l)) w.flash_fits (passed _ _ _ c.in_ok-length.ensures).0).1 in
    rw (text-written _ _ w.own _ _ (reply-accepted _ _ (checks-text _ _ w.own w.opens _ _ ∙ told.0) ∙ result-text _ _ w.own _ _), ← c.part_of-part.ensures) (c.write.ensures.written fits)
