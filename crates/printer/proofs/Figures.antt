-- A number's decimal figures: the library's are the definition's, and the logarithm tells how many.
use mathlib.Core.Path.{◌≡◌, sym}
use mathlib.Core.List.{List}
use Prim.Native.Nat.{ℕ, ◌+◌, ◌*◌, ◌/◌, ◌^◌, ◌≤◌, ◌<◌}
use native.Mathlib.Nat.{div-lt_iff_lt-mul, one-le-pow}
use native.Mathlib.Omega.{arith}
use lib.ListN.{length}
use Rattle.std.specs.Fmt as std
use Rattle.std.specs.Prelude.{Option, Some, None, IfSome, IfNone, unwrap_or}
use Rattle.std.proofs.lemmas.Fmt.{decimal_digit, decimal_step}
use Rattle.model.specs.Text.{decimal}
use Rattle.model.proofs.Decimals.{by-figures, length-one, length-by}

pub decimal_std : (n : ℕ) → n < 2 ^ 64 → std.decimal n ≡ decimal n
decimal_std n l =
    sym (by-figures (λ (m : ℕ) (ds : List ℕ). m < 2 ^ 64 → ds ≡ std.decimal m)
    (λ m h b. sym (decimal_digit m h))
    (λ m ds g e b. rw (e (omega arith)) (sym (decimal_step m g b)))
    19 n (omega arith) l)

-- one more than the logarithm, and 0 has one too
pub length_log : (n : ℕ) (log : Option ℕ) → n < 2 ^ 64 → IfNone log (n ≡ 0) → IfSome log (λ k. 10 ^ k ≤ n) → IfSome log (λ k. n < 10 * 10 ^ k) → unwrap_or log 0 + 1 ≡ length (decimal n)
length_log n None l z g h = sym (length-one n (omega (arith, z)))
length_log n (Some k) l z g h =
    let one : n / 10 ^ k < 10 = (div-lt_iff_lt-mul {k = 10 ^ k} (one-le-pow k 10 (omega arith))).1 h in
    omega (arith, length-by k n g (omega arith), length-one (n / 10 ^ k) one)
