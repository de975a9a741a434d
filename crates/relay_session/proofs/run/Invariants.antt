-- The loop's invariant: an unfinished line is held, and does what the text read so far does from the start.
use Rattle.model.specs.Session.{program_areas}
use Rattle.answers.specs.Performs.{areas}
use Rattle.held.specs.Held.{Held}
use Rattle.relay_session.proofs.Reaching.{Reached}
use Rattle.relay_session.proofs.run.Given as goal

abbrev pub invariant-loop : goal.invariant-loop
invariant-loop g l = Reached l.rest l.input program_areas (areas l.memory l.flash) × Held l.rest l.input
