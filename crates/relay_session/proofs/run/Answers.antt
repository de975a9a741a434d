-- A turn reads behind the line that is held, and goes on from what was read.
use Rattle.std.proofs.Common.{arith}
use Rattle.held.proofs.Holding.{held_none, kept-short, kept-unended}
use Rattle.relay_session.proofs.Reaching.{reached-none, goes, ends}
use Rattle.relay_session.proofs.run.Goals as goal

pub loop-init : goal.loop-init
loop-init g c = (rw (c.requires.memory_value, c.requires.flash_value) (reached-none _ _), held_none _)

pub read_behind-read-requires : goal.read_behind-read-requires
read_behind-read-requires g c = omega (arith, kept-short c.hold-held.ensures c.loop.invariant.1)

pub run_piece-requires-clause-unended : goal.run_piece-requires-clause-unended
run_piece-requires-clause-unended g c = rw c.read_behind-read.ensures.stays (kept-unended c.hold-held.ensures c.loop.invariant.1)

pub returns-in_default : goal.returns-in_default
returns-in_default g c = let i = c.loop.invariant in ends i.0 c.hold-held.ensures i.1 _ c.read_behind-read.ensures.stays _ _ _ _ c.run_piece.ensures

pub returns-in_default-2 : goal.returns-in_default-2
returns-in_default-2 g c = let i = c.loop.invariant in ends i.0 c.hold-held.ensures i.1 _ c.read_behind-read.ensures.stays _ _ _ _ c.run_piece.ensures

pub loop-preserved : goal.loop-preserved
loop-preserved g c =
    let i = c.loop.invariant in
    let read = c.read_behind-read in
    goes i.0 c.hold-held.ensures i.1 _ read.ensures.stays _ _ (omega arith) (omega arith) read.result read.ensures.within (rw c.in-Ok-Some.field-0-is at c.in-Ok-Some.ensures)
