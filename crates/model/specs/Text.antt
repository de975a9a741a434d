-- Texts as bytes: fixed texts, and decimal figures.
use Rattle.std.specs.Prelude.{ℕ, zero, suc, ◌+◌, ◌-◌, ◌*◌, ◌/◌, ◌%◌, Bool, true, false, cond, not, ◌&&◌, List, [], ◌∷◌, ◌++◌, eqb, ltb, length, drop, Option, None, Some}
use Prim.Native.Char.{code}
use Prim.Native.String as string
use Prim.Native.String.{String}
use Rattle.model.specs.Geometry.{between}

abbrev pub text : String → List ℕ
text string.[] = []
text (string.◌∷◌ c s) = code c ∷ text s

-- n in decimal figures without leading zeros: at most `most` of them
unfoldable pub figures : ℕ → ℕ → List ℕ
figures zero n = []
figures (suc most) n = cond (ltb n 10) ((48 + n) ∷ []) (figures most (n / 10) ++ ((48 + n % 10) ∷ []))

-- 20 figures hold every 64-bit number
abbrev pub decimal : ℕ → List ℕ
decimal n = figures 20 n

-- what follows a fixed text
unfoldable pub past : List ℕ → List ℕ → Option (List ℕ)
past [] xs = Some xs
past (b ∷ bs) [] = None
past (b ∷ bs) (x ∷ xs) = cond (eqb x b) (past bs xs) None

-- the figures that a text opens with
unfoldable pub leading : List ℕ → List ℕ
leading [] = []
leading (x ∷ xs) = cond (between 48 57 x) (x ∷ leading xs) []

-- some figures, and no leading zero
abbrev pub is_plain : List ℕ → Bool
is_plain [] = false
is_plain (d ∷ []) = true
is_plain (d ∷ e ∷ ds) = not (eqb d 48)

-- the number that these figures give behind the number n
unfoldable pub number_from : ℕ → List ℕ → ℕ
number_from n [] = n
number_from n (d ∷ ds) = number_from (10 * n + (d - 48)) ds

-- a number, and what follows it
pub record Figure : Type 0 where
  pub value : ℕ
  pub rest : List ℕ

-- the number below the limit that a text opens with
unfoldable pub figure : ℕ → List ℕ → Option Figure
figure limit xs =
    cond (is_plain (leading xs) && ltb (number_from 0 (leading xs)) limit)
    (Some (record { value = number_from 0 (leading xs); rest = drop (length (leading xs)) xs }))
    None
