-- What is shown lies within its area, and is the part that the definition names.
use Rattle.std.proofs.Common.{sym}
use native.Mathlib.Nat.{add-sub_cancel_left}
use Rattle.model.specs.Calls.{bytes_shown}
use Rattle.index.specs.Address.{address_shown}
use Rattle.index.proofs.view.Goals as goal

pub returns-in-Ok-Memory-clause-result_value : goal.returns-in-Ok-Memory-clause-result_value
unfolding bytes_shown
returns-in-Ok-Memory-clause-result_value c = rw (add-sub_cancel_left, sym c.in-Ok-Memory.ensures.performs.answers, c.in-Ok-Memory.field-0-is)

pub returns-in-Ok-Memory-clause-ref_ptr_value : goal.returns-in-Ok-Memory-clause-ref_ptr_value
unfolding address_shown
returns-in-Ok-Memory-clause-ref_ptr_value c = rw (sym c.in-Ok-Memory.ensures.performs.answers, c.in-Ok-Memory.field-0-is)

pub returns-in-Ok-Flash-clause-result_value : goal.returns-in-Ok-Flash-clause-result_value
unfolding bytes_shown
returns-in-Ok-Flash-clause-result_value c = rw (add-sub_cancel_left, sym c.in-Ok-Flash.ensures.performs.answers, c.in-Ok-Flash.field-0-is)

pub returns-in-Ok-Flash-clause-ref_ptr_value : goal.returns-in-Ok-Flash-clause-ref_ptr_value
unfolding address_shown
returns-in-Ok-Flash-clause-ref_ptr_value c = rw (sym c.in-Ok-Flash.ensures.performs.answers, c.in-Ok-Flash.field-0-is)

pub returns-in-Err-clause-result_value : goal.returns-in-Err-clause-result_value
unfolding bytes_shown
returns-in-Err-clause-result_value c = rw (sym c.in-Err.ensures.performs.answers)

pub returns-in-Err-clause-ref_ptr_value : goal.returns-in-Err-clause-ref_ptr_value
unfolding address_shown
returns-in-Err-clause-ref_ptr_value c = rw (sym c.in-Err.ensures.performs.answers)
