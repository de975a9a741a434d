-- From a format on a count is accepted, and answers the sum of the page counts.
use mathlib.Core.Path.{sym, ◌∙◌, ap}
use mathlib.Core.List.{◌∷◌}
use Rattle.model.specs.Answers.{Areas, done}
use Rattle.model.specs.Calls.{format, count, run}
use Rattle.model.proofs.Calls.{result_count, reply-accepted}
use Rattle.history.specs.History.{History, events, remember}
use Rattle.history.specs.Claim.{Counts, CountsHeld}
use Rattle.history.proofs.Totalling.{held-shown}
use Rattle.history.proofs.Checking.{count-checks}
use Rattle.history.proofs.InStep.{InStep}
use Rattle.history.proofs.Demand.{in_step}

counts : (a : Areas) (h : History) → InStep a h → Counts a h
counts a h inv t below =
    let g = h.geometry in
    reply-accepted a (count t) (count-checks inv t below)
    ∙ result_count a g inv.shows.geometry t
    ∙ rw inv.shows.geometry (ap done (inv.counted t below ∙ sym (held-shown g inv.shows.ok t _ _ _ (inv.shows.part t below) (inv.good.core.parts t))))

pub counts-held : CountsHeld
unfolding CountsHeld
counts-held a h g accepted cs fits = counts (run a (format g ∷ cs)) (remember h (events a (format g ∷ cs))) (in_step a h g accepted cs fits)
