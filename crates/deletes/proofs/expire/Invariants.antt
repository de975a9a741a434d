use Rattle.std.proofs.Common.{◌≡◌, ◌≤◌, length}
use Rattle.model.specs.DeleteList.{expiring}
use Rattle.model.proofs.Closing.{Closed}
use Rattle.deletes.proofs.expire.Given as goal

-- the first i records are closed up: those that stay stand together from the start, and what lies ahead is as it was
abbrev pub invariant-loop-i : goal.invariant-loop-i
invariant-loop-i l = record {
  behind : l.stay ≤ l.i;
  same_length : length l.list ≡ length l.fn.list;
  closed : Closed (expiring l.back l.flushes l.fn.list) l.i l.fn.list l.list l.stay;
}
