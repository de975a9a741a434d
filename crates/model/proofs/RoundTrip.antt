-- A number that is printed is read back: its figures are figures, the first is no needless 0, and they say the number.
use mathlib.Core.Path.{◌≡◌, refl, ◌∙◌, ap}
use mathlib.Core.Bool.{true}
use mathlib.Core.List.{List, [], ◌∷◌, ◌++◌}
use Rattle.std.specs.Prelude.{Some}
use Prim.Native.Nat.{ℕ, zero, suc, ◌+◌, ◌-◌, ◌*◌, ◌%◌, ◌^◌, ◌≤◌, ◌<◌}
use native.Mathlib.Omega.{arith}
use lib.ListN.{length}
use lib.Seq.{drop-append_seam}
use borrow.Author.Tests.{le-leb, ne_eqb}
use Rattle.model.specs.Geometry.{between}
use Rattle.model.specs.Text.{decimal, leading, is_plain, number_from, figure}
use Rattle.model.proofs.Numbers.{figure-is}
use Rattle.model.proofs.Decimals.{figures-one, by-figures}

-- ---- all of them figures
abbrev All : List ℕ → Type 0
All [] = Unit {0}
All (d ∷ ds) = (between 48 57 d ≡ true) × All ds

all_append : (xs ys : List ℕ) → All xs → All ys → All (xs ++ ys)
all_append [] ys p q = q
all_append (x ∷ xs) ys p q = (p.0, all_append xs ys p.1 q)

one-figure : (d : ℕ) → d < 10 → All ((48 + d) ∷ [])
one-figure d l = (rw (le-leb 48 (48 + d) (omega arith), le-leb (48 + d) 57 (omega arith)), tt)

decimal-all : (n : ℕ) → n < 10 ^ 20 → All (decimal n)
decimal-all = by-figures (λ n ds. All ds) one-figure (λ n ds g p. all_append ds ((48 + n % 10) ∷ []) p (one-figure (n % 10) (omega arith))) 19

leading-all : (xs rest : List ℕ) → All xs → leading rest ≡ [] → leading (xs ++ rest) ≡ xs
unfolding leading
leading-all [] rest p e = e
leading-all (x ∷ xs) rest p e = rw (p.0, leading-all xs rest p.1 e)

-- ---- no leading zero
abbrev Opens : List ℕ → Type 0
Opens [] = ⊥
Opens (d ∷ ds) = d ≡ 48 → ⊥

opens-append : (xs ys : List ℕ) → Opens xs → Opens (xs ++ ys)
opens-append [] ys p = absurd p
opens-append (x ∷ xs) ys p = p

decimal-opens : (n : ℕ) → n < 10 ^ 20 → 0 < n → Opens (decimal n)
decimal-opens = by-figures (λ n ds. 0 < n → Opens ds) (λ n l p. omega arith) (λ n ds g q p. opens-append ds ((48 + n % 10) ∷ []) (q (omega arith))) 19

opens_plain : (xs : List ℕ) → Opens xs → is_plain xs ≡ true
opens_plain [] p = absurd p
opens_plain (d ∷ []) p = refl
opens_plain (d ∷ e ∷ ds) p = rw (ne_eqb d 48 p)

decimal-plain : (n : ℕ) → n < 10 ^ 20 → is_plain (decimal n) ≡ true
decimal-plain zero l = rw (figures-one 19 0 (omega arith))
decimal-plain (suc n) l = opens_plain (decimal (suc n)) (decimal-opens (suc n) l (omega arith))

-- ---- what they say
number_append : (xs ys : List ℕ) (a : ℕ) → number_from a (xs ++ ys) ≡ number_from (number_from a xs) ys
unfolding number_from
number_append [] ys a = refl
number_append (x ∷ xs) ys a = number_append xs ys (10 * a + (x - 48))

number-last : (d a : ℕ) → number_from a ((48 + d) ∷ []) ≡ 10 * a + d
unfolding number_from
number-last d a = omega arith

decimal-says : (n : ℕ) → n < 10 ^ 20 → number_from 0 (decimal n) ≡ n
decimal-says = by-figures (λ n ds. number_from 0 ds ≡ n) (λ n l. rw (number-last n 0) (omega arith)) (λ n ds g e. rw (number_append, e, number-last) (omega arith)) 19

-- the figures of n, before a text that opens with none, are read as n, and that text is left
pub read_back : (limit n : ℕ) (rest : List ℕ) → n < limit → limit ≤ 2 ^ 64 → leading rest ≡ [] → figure limit (decimal n ++ rest) ≡ Some (record { value = n; rest = rest })
read_back limit n rest l small None =
    let n-small : n < 10 ^ 20 = omega arith in
    let its : leading (decimal n ++ rest) ≡ decimal n = leading-all (decimal n) rest (decimal-all n n-small) None in
    figure-is limit (decimal n ++ rest) n (length (decimal n)) (rw its (decimal-plain n n-small)) (rw its (decimal-says n n-small)) (ap length its) l
    ∙ rw drop-append_seam
