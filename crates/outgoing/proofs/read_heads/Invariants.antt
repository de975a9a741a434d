-- After q heads it is known what they count together, and that none of them fails.
use Rattle.outgoing.proofs.Heads.{Read}
use Rattle.outgoing.proofs.read_heads.Given as goal

abbrev pub invariant-loop-q : goal.invariant-loop-q
invariant-loop-q l = Read l.g l.t l.n l.flash l.entries l.q
