-- The test is the definition's, and each figure is its own.
use Rattle.std.proofs.Common.{sym, ◌∙◌}
use Rattle.model.specs.Card.{figured}
use Rattle.card.proofs.figures.Goals as goal

pub returns-then-not-is_allowed : goal.returns-then-not-is_allowed
unfolding figured
returns-then-not-is_allowed c = rw (sym c.is_allowed.ensures ∙ c.if-not-is_allowed.true)

pub returns : goal.returns
unfolding figured
returns c = rw (sym c.is_allowed.ensures ∙ c.if-not-is_allowed.false, c.memory_need.ensures, c.flash_need.ensures, c.most_flushes.ensures, c.first_lost.ensures)
