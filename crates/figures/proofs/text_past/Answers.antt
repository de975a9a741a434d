-- Past the line's end nothing stands, and the text may be empty.
use Rattle.std.proofs.Common.{◌≡◌, ◌+◌, cond, length, drop, refl, sym}
use Rattle.std.specs.Prelude.{Some, None}
use Rattle.model.specs.Text.{past}
use Rattle.figures.proofs.Prefixes.{text-at, got_from}
use Rattle.figures.proofs.text_past.Goals.{After-starts_with}
use Rattle.figures.proofs.text_past.Goals as goal

found : (c : After-starts_with) → past c.args.text.now (drop c.args.at c.args.line.now) ≡ cond c.starts_with.result (Some (drop (c.args.at + length c.args.text.now) c.args.line.now)) None
found c = text-at _ _ _ (rw c.unwrap_or-rest.ensures (got_from _ _ c.get.result _ refl c.get.ensures.lookup)) c.starts_with.ensures.value

pub returns-then-starts_with : goal.returns-then-starts_with
returns-then-starts_with c = sym (rw c.if-starts_with.true at (found (goal.at.returns-then-starts_with c).After-starts_with))

pub returns-else-starts_with : goal.returns-else-starts_with
returns-else-starts_with c = sym (rw c.if-starts_with.false at (found (goal.at.returns-else-starts_with c).After-starts_with))
