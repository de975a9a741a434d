use Rattle.std.proofs.Common.{◌+◌, arith, drop, length-drop}
use lib.Seq.{get_or-drop}
use Rattle.model.proofs.Parts.{store-more, store-ahead}
use Rattle.words.proofs.move_down.Goals as goal

pub loop-j-preserved : goal.loop-j-preserved
loop-j-preserved c =
    let a = c.args in
    let l = c.loop-j in
    store-more _ _ _ _ _ l.invariant (rw length-drop (omega arith)) (rw get_or-drop (store-ahead a.s.now (drop a.from a.s.now) a.to l.j (a.from + l.j) l.invariant (omega arith)))
