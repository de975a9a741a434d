-- The answer is at all times the answer from page q on.
use Rattle.std.proofs.Common.{◌≡◌, ◌-◌, not}
use Rattle.model.specs.Search.{first_from, is_some}
use Rattle.model.specs.Page.{expected}
use Rattle.model.specs.Batch.{batch_page, failed_page}
use Rattle.sources.proofs.is_failed.Given as goal

abbrev pub invariant-loop-q : goal.invariant-loop-q
invariant-loop-q l = is_some (failed_page l.g l.t l.flash l.n) ≡ is_some (first_from (l.g.pages - l.q) l.q (λ q. not (expected l.g l.t l.n q (batch_page l.g l.t l.flash l.n q))))
