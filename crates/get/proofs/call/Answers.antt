-- The one refusal is the checks' own, and an accepted lookup changes nothing.
use Rattle.std.proofs.Common.{◌≡◌, ◌∙◌, arith}
use Rattle.model.specs.Answers.{unread}
use Rattle.model.specs.Keys.{partition_of}
use Rattle.model.specs.Partition.{partition}
use Rattle.model.specs.Refusals.{key_overfull}
use Rattle.model.proofs.KeyedChecks.{get-12, get-passes}
use Rattle.model.proofs.Calls.{checks-get, result-get, effect-get}
use Rattle.answers.proofs.Performing.{refusing, looking}
use Rattle.partition.specs.Ready.{Whole}
use Rattle.partition.proofs.Lending.{key-whole, asked_of}
use Rattle.get.proofs.call.Goals as goal
use Rattle.get.proofs.call.Goals.{After-part_of_key-part, After-is_key_overfull}

-- the part is the key's partition
whole : (c : After-part_of_key-part) → Whole c.args.g c.part_of_key-part.result.now
whole c = rw c.part_of_key-part.ensures (key-whole _ _ c.requires.fine c.requires.memory_fits _ (omega arith))

-- and the test is of it
tested : (c : After-is_key_overfull) → let a = c.args in key_overfull a.g a.key (partition a.g (partition_of a.g a.key) a.memory.now) ≡ c.is_key_overfull.result
tested c = let a = c.args in asked_of (key_overfull a.g a.key) c.is_key_overfull.ensures c.part_of_key-part.ensures

pub is_key_overfull-requires : goal.is_key_overfull-requires
is_key_overfull-requires c = whole (goal.at.is_key_overfull-requires c).After-part_of_key-part

pub returns-then-is_key_overfull : goal.returns-then-is_key_overfull
returns-then-is_key_overfull c =
    let w = c.requires in
    let over = tested (goal.at.returns-then-is_key_overfull c).After-is_key_overfull ∙ c.if-is_key_overfull.true in
    rw c.into.ensures (refusing _ _ _ (unread 12) (checks-get _ _ w.own w.opens _ ∙ get-12 _ _ _ over))

pub lookup-requires-clause-whole : goal.lookup-requires-clause-whole
lookup-requires-clause-whole c = whole (goal.at.lookup-requires-clause-whole c).After-part_of_key-part

pub returns : goal.returns
returns c =
    let w = c.requires in
    let fits = tested (goal.at.returns c).After-is_key_overfull ∙ c.if-is_key_overfull.false in
    looking _ _ _ _ (checks-get _ _ w.own w.opens _ ∙ get-passes _ _ _ fits) (result-get _ _ w.own _) (rw c.part_of_key-part.ensures at c.lookup.ensures) (effect-get _ _)
