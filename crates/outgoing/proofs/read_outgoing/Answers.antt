-- The head tells whether K batches are live; then the oldest leaves.
use Rattle.std.proofs.Common.{◌∙◌, arith}
use Rattle.model.proofs.Heads.{head-fits}
use Rattle.head.proofs.Fields.{flushes-is, live-is}
use Rattle.partition.proofs.Inside.{list_inside}
use Rattle.outgoing.proofs.Deciding.{slot-again, none_out, oldest-out}
use Rattle.outgoing.proofs.read_outgoing.Goals as goal

pub read-head-requires : goal.read-head-requires
read-head-requires c = omega (arith, list_inside _ _ c.requires.whole)

pub returns-then-head-g : goal.returns-then-head-g
returns-then-head-g c = none_out _ _ _ _ (omega (arith, live-is c.read-head.ensures))

pub overflow_sub-head : goal.overflow_sub-head
overflow_sub-head c =
    let h = c.read-head.ensures in
    omega (arith, (head-fits _ _ c.requires.part_value).flushed, live-is h, flushes-is h)

pub read_heads-requires-clause-j_value : goal.read_heads-requires-clause-j_value
read_heads-requires-clause-j_value c =
    let h = c.read-head.ensures in
    let fits = head-fits _ _ c.requires.part_value in
    c.slot_of-j.ensures ∙ slot-again c.args.g _ _ (omega (arith, fits.kept, live-is h)) (omega (arith, fits.flushed, live-is h, flushes-is h))

pub returns : goal.returns
returns c =
    let h = c.read-head.ensures in
    c.read_heads.ensures ∙ oldest-out _ _ _ _ (omega (arith, live-is h)) _ (omega (arith, live-is h, flushes-is h))
