-- What the younger batches answer is at all times what those answer that are left, after some reads.
use Rattle.std.proofs.Common.{◌+◌, ◌-◌}
use Rattle.answering.proofs.Asking.{Asking}
use Rattle.answering.proofs.is_superseded.Given as goal

abbrev pub invariant-loop-age : goal.invariant-loop-age
invariant-loop-age l = Asking l.g l.key l.part l.flash l.n (l.n + l.younger - l.age)
