-- A fixed text against what stands in a line from a place on.
use Rattle.std.proofs.Common.{ℕ, ◌≡◌, ◌+◌, ◌<◌, ◌≤◌, ◌⊎◌, Bool, cond, eqb, List, [], ◌∷◌, length, drop, refl, arith}
use Rattle.std.specs.Prelude.{Option, None, Some, unwrap_or}
use Rattle.std.specs.Borrow.{Bor}
use Rattle.std.specs.List.{starts_with}
use Rattle.std.specs.Slice.{IsGetRangeResult}
use Rattle.std.proofs.Math.ListN.{drop_of_length-le}
use Rattle.std.proofs.lemmas.Bool.Decides.{nat_tests}
use Rattle.std.proofs.lemmas.List.{drop-drop}
use Rattle.std.proofs.lemmas.Grind.{common_steps}
use Rattle.model.specs.Text.{past}

past-test : (t xs : List ℕ) → past t xs ≡ cond (starts_with eqb xs t) (Some (drop (length t) xs)) None
unfolding past
past-test [] xs = refl
past-test (b ∷ bs) [] = refl
past-test (b ∷ bs) (x ∷ xs) = let h = past-test bs xs in grind (arith, nat_tests, h)

pub text-at : (t line : List ℕ) (at : ℕ) {rest : List ℕ} {b : Bool} → rest ≡ drop at line → b ≡ starts_with eqb rest t → past t (drop at line) ≡ cond b (Some (drop (at + length t) line)) None
text-at t line at e h = rw (h, e, past-test t (drop at line), drop-drop)

-- what `get` gives from a place on, or nothing past the end
pub got_from : (line : List ℕ) (at : ℕ) (r : Option (Bor (List ℕ))) (d : Bor (List ℕ)) → d.now ≡ [] → IsGetRangeResult line at (length line) r → (unwrap_or r d).now ≡ drop at line
got_from line at None d e h = rw (e, drop_of_length-le line (outside h.0))
  where
    outside : (length line < at) ⊎ (length line < length line) → length line ≤ at
    outside p = omega arith
got_from line at (Some x) d e h = grind (arith, common_steps)
