-- A printed put: no byte of its line is 10, so a text is cut behind it, and the line says the put.
use mathlib.Core.Path.{◌≡◌, refl, ◌∙◌, ap}
use mathlib.Core.List.{List, [], ◌∷◌, ◌++◌, append_assoc}
use Rattle.std.specs.Prelude.{Option, Some}
use Prim.Native.Nat.{ℕ, ◌+◌, ◌%◌, ◌^◌, ◌<◌}
use Prim.Native.String.{String}
use native.Mathlib.Omega.{arith}
use borrow.Author.Tests.{eq-eqb, ne_eqb}
use Rattle.model.specs.Text.{text, decimal, past, leading, Figure, figure}
use Rattle.model.specs.PartitionText.{put_text}
use Rattle.model.specs.Calls.{put}
use Rattle.model.specs.Session.{then, number_past, ending, put_line, call_of, lines_of}
use Rattle.model.proofs.Decimals.{by-figures}
use Rattle.model.proofs.RoundTrip.{read_back}

-- the line, without its byte 10
abbrev pub put_line_of : ℕ → ℕ → List ℕ
put_line_of k v = text "(put " ++ decimal k ++ text " " ++ decimal v ++ text ")"

-- ---- no byte 10
abbrev Unended : List ℕ → Type 0
Unended [] = Unit {0}
Unended (x ∷ xs) = (x ≡ 10 → ⊥) × Unended xs

unended-append : (xs ys : List ℕ) → Unended xs → Unended ys → Unended (xs ++ ys)
unended-append [] ys p q = q
unended-append (x ∷ xs) ys p q = (p.0, unended-append xs ys p.1 q)

figure-unended : (n : ℕ) → Unended ((48 + n) ∷ [])
figure-unended n = ((λ e. omega arith), tt)

decimal-unended : (n : ℕ) → n < 10 ^ 20 → Unended (decimal n)
decimal-unended = by-figures (λ n ds. Unended ds) (λ n l. figure-unended n) (λ n ds g p. unended-append ds ((48 + n % 10) ∷ []) p (figure-unended (n % 10))) 19

line-unended : (k v : ℕ) → k < 2 ^ 64 → v < 2 ^ 64 → Unended (put_line_of k v)
line-unended k v lk lv =
    let key : Unended (text "(put " ++ decimal k) = unended-append (text "(put ") (decimal k) (omega arith, (omega arith, (omega arith, (omega arith, (omega arith, tt))))) (decimal-unended k (omega arith)) in
    let space : Unended (text "(put " ++ decimal k ++ text " ") = unended-append (text "(put " ++ decimal k) (text " ") key (omega arith, tt) in
    let value : Unended (text "(put " ++ decimal k ++ text " " ++ decimal v) = unended-append (text "(put " ++ decimal k ++ text " ") (decimal v) space (decimal-unended v (omega arith)) in
    unended-append (text "(put " ++ decimal k ++ text " " ++ decimal v) (text ")") value (omega arith, tt)

cut : (line rest : List ℕ) → Unended line → lines_of (line ++ 10 ∷ rest) ≡ line ∷ lines_of rest
unfolding lines_of
cut [] rest p = refl
cut (x ∷ line) rest p = rw (ne_eqb x 10 p.0, cut line rest p.1)

ended : (k v : ℕ) (rest : List ℕ) → put_text k v ++ rest ≡ put_line_of k v ++ 10 ∷ rest
unfolding put_text
ended k v rest = simp append_assoc

pub put-cut : (k v : ℕ) → k < 2 ^ 64 → v < 2 ^ 64 → (rest : List ℕ) → lines_of (put_text k v ++ rest) ≡ put_line_of k v ∷ lines_of rest
put-cut k v lk lv rest = ap lines_of (ended k v rest) ∙ cut (put_line_of k v) rest (line-unended k v lk lv)

-- ---- what the line says
past-text : (bs rest : List ℕ) → past bs (bs ++ rest) ≡ Some rest
unfolding past
past-text [] rest = refl
past-text (b ∷ bs) rest = rw (eq-eqb b b refl) (past-text bs rest)

number_past_lem : (s : String) (n : ℕ) (rest : List ℕ) → n < 2 ^ 64 → leading rest ≡ [] → number_past s (2 ^ 64) (text s ++ (decimal n ++ rest)) ≡ Some (record { value = n; rest = rest })
number_past_lem s n rest l None = ap (λ (o : Option (List ℕ)). then o (figure (2 ^ 64))) (past-text (text s) (decimal n ++ rest)) ∙ read_back (2 ^ 64) n rest l (omega arith) None

put-line : (k v : ℕ) → k < 2 ^ 64 → v < 2 ^ 64 → put_line (put_line_of k v) ≡ Some (put k v)
unfolding put_line leading past
put-line k v lk lv =
    let nested : put_line_of k v ≡ text "(put " ++ (decimal k ++ (text " " ++ (decimal v ++ text ")"))) = simp append_assoc in
    ap put_line nested
    ∙ ap (λ (o : Option Figure). then o (λ k. then (number_past " " (2 ^ 64) k.rest) (λ v. ending ")" v.rest (put k.value v.value)))) (number_past_lem "(put " k (text " " ++ (decimal v ++ text ")")) lk refl)
    ∙ ap (λ (o : Option Figure). then o (λ v. ending ")" v.rest (put k v.value))) (number_past_lem " " v (text ")") lv refl)

pub put-said : (k v : ℕ) → k < 2 ^ 64 → v < 2 ^ 64 → call_of (put_line_of k v) ≡ Some (put k v)
unfolding call_of
put-said k v lk lv = rw (put-line k v lk lv)
