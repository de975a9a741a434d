-- The checks are those of the definition, and what they leave possible is done as it says.
use Rattle.std.proofs.Common.{refl, sym, ◌∙◌}
use Rattle.std.proofs.lemmas.Result.{err_from_is_err_and}
use Rattle.model.proofs.Checks.{format-accepted}
use Rattle.model.proofs.Calls.{checks-format, result-format, effect-format}
use Rattle.answers.proofs.Performing.{refusing, doing}
use Rattle.format.proofs.call.Goals as goal

pub returns-in_err-decide : goal.returns-in_err-decide
returns-in_err-decide c =
    let p = err_from_is_err_and c.from_residual.result c.from_residual.ensures.1 in
    rw (p.1, p.2) (refusing _ _ _ _ (checks-format _ _ ∙ sym c.in_err-decide.ensures))

pub apply-requires : goal.apply-requires
apply-requires c = let w = format-accepted _ _ (sym c.in_ok-decide.ensures) in record { g_value = w.0; g_in_bounds = w.1 }

pub returns : goal.returns
returns c = doing _ _ _ 0 _ _ (checks-format _ _ ∙ sym c.in_ok-decide.ensures) (result-format _ _) (effect-format _ _) c.apply.ensures refl
