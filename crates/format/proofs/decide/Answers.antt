-- Each test of the code is the one of the definition, in its order.
use Rattle.std.proofs.Common.{sym, ◌∙◌, arith}
use Rattle.model.proofs.Checks.{format-1, format-2, format-3, format-passes}
use Rattle.format.proofs.decide.Goals as goal

pub returns-then-not-is_allowed : goal.returns-then-not-is_allowed
returns-then-not-is_allowed c = sym (format-1 _ _ (sym c.is_allowed.ensures ∙ c.if-not-is_allowed.true))

pub returns-then-memory-memory_need : goal.returns-then-memory-memory_need
returns-then-memory-memory_need c = sym (format-2 _ _ (sym c.is_allowed.ensures ∙ c.if-not-is_allowed.false) (omega arith))

pub returns-then-flash-flash_need : goal.returns-then-flash-flash_need
returns-then-flash-flash_need c = sym (format-3 _ _ (sym c.is_allowed.ensures ∙ c.if-not-is_allowed.false) (omega arith) (omega arith))

pub returns : goal.returns
returns c = sym (format-passes _ _ (sym c.is_allowed.ensures ∙ c.if-not-is_allowed.false) (omega arith) (omega arith))
