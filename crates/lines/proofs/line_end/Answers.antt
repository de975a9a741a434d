-- The search of the rest says what stands before the byte that it finds.
use Rattle.std.proofs.Common.{◌≡◌, ◌∙◌, length, rules, arith}
use Rattle.std.proofs.lemmas.Iterator.{IsFirst-from_position, YieldsList-from_slice}
use Rattle.std.proofs.lemmas.Slice.{between_to_end}
use borrow.Author.Tests.{tests}
use Rattle.lines.proofs.Lines.{end-found, end-last}
use Rattle.lines.proofs.line_end.Goals as goal

pub returns-in-Some : goal.returns-in-Some
returns-in-Some c =
    let xs = c.args.input.now in
    let rest = YieldsList-from_slice _ (c.iter.ensures.rest ∙ between_to_end xs c.args.from (length xs) (omega arith)) in
    end-found xs _ _ c.requires (IsFirst-from_position _ _ _ (λ x. x ≡ 10) (λ x. x ≡ 10 → ⊥) c.in-Some.ensures.ran rest (λ x q k. search (rules, tests)) (λ x q k. search (rules, tests)))

pub returns-in-None : goal.returns-in-None
returns-in-None c =
    let xs = c.args.input.now in
    let rest = YieldsList-from_slice _ (c.iter.ensures.rest ∙ between_to_end xs c.args.from (length xs) (omega arith)) in
    end-last xs _ c.requires (IsFirst-from_position _ _ _ (λ x. x ≡ 10) (λ x. x ≡ 10 → ⊥) c.in-None.ensures.ran rest (λ x q k. search (rules, tests)) (λ x q k. search (rules, tests)))
