-- A line that says a call has at most 138 bytes: its texts are fixed, and a number below its limit has at most so many figures.
use Rattle.std.proofs.lemmas.Option.{same_Some}
use Prim.Native.Nat.{ℕ, suc, ◌+◌, ◌-◌, ◌*◌, ◌^◌, ◌≤◌, ◌<◌}
use Prim.Native.String.{String}
use mathlib.Core.Bool.{Bool, true, false, cond}
use mathlib.Core.Logic.{⊎_elim}
use mathlib.Core.List.{List, [], ◌∷◌}
use Rattle.std.specs.Prelude.{Option, None, Some}
use mathlib.Core.Path.{◌≡◌, refl, ap}
use native.Mathlib.Nat.{pow-suc, pow-le-pow_right}
use native.Mathlib.Omega.{arith}
use lib.Dec.{eqb}
use lib.ListN.{length, length-drop}
use borrow.Author.Tests.{leb-true, eqb-false, not-true}
use Rattle.model.proofs.Parts.{lt-or-ge}
use Rattle.model.specs.Geometry.{between}
use Rattle.model.specs.Text.{text, past, leading, is_plain, number_from, Figure, figure}
use Rattle.model.specs.Calls.{Call}
use Rattle.model.specs.Session.{then, or_else, number_past, at_end, ending, wide, narrow, put_line, get_line, del_line, flush_line, count_line, drop_line, format_line, call_of}
use Rattle.model.proofs.Tests.{both_true}
use Rattle.model.proofs.Numbers.{figure-read}

-- ---- figures behind a number n of more than j figures
more-figures : (ds : List ℕ) (n j k : ℕ) → 10 ^ j ≤ n → number_from n ds < 10 ^ k → length ds + j < k
unfolding number_from
more-figures [] n j k l h = ⊎_elim (λ (less : j < k). omega arith) (λ (g : k ≤ j). absurd (omega (arith, pow-le-pow_right {n = 10} (omega arith) g))) (lt-or-ge j k)
more-figures (d ∷ ds) n j k l h = omega (arith, more-figures ds (10 * n + (d - 48)) (suc j) k (rw (pow-suc 10 j) (omega arith)) h)

-- a number below 10^k without a leading zero has at most k figures
most-figures : (xs : List ℕ) (k : ℕ) → 0 < k → is_plain (leading xs) ≡ true → number_from 0 (leading xs) < 10 ^ k → length (leading xs) ≤ k
unfolding leading number_from
most-figures [] k p e h = omega arith
most-figures (x ∷ xs) k p e h = go (between 48 57 x) refl e h
  where
    opened : (ds : List ℕ) → between 48 57 x ≡ true → is_plain (x ∷ ds) ≡ true → number_from 0 (x ∷ ds) < 10 ^ k → length (x ∷ ds) ≤ k
    opened [] f e h = omega arith
    opened (d ∷ ds) f e h =
        let low : 48 ≤ x = leb-true 48 x (both_true _ _ f).0 in
        let other = eqb-false x 48 (not-true _ e) in
        omega (arith, more-figures (d ∷ ds) (10 * 0 + (x - 48)) 0 k (omega arith) h)

    go : (b : Bool) → between 48 57 x ≡ b → is_plain (cond b (x ∷ leading xs) []) ≡ true → number_from 0 (cond b (x ∷ leading xs) []) < 10 ^ k → length (cond b (x ∷ leading xs) []) ≤ k
    go true f e h = opened (leading xs) f e h
    go false f e h = omega arith

-- ---- what is left behind a text and a number
past-length : (t xs ys : List ℕ) → past t xs ≡ Some ys → length xs ≡ length t + length ys
unfolding past
past-length [] xs ys e = omega (arith, ap length (same_Some _ _ e))
past-length (b ∷ t) [] ys e = let z : ◌≡◌ {A = ℕ} 0 1 = cc in omega arith
past-length (b ∷ t) (x ∷ xs) ys e = go (eqb x b) (past-length t xs ys) e
  where
    go : (o : Bool) → (past t xs ≡ Some ys → length xs ≡ length t + length ys) → cond o (past t xs) None ≡ Some ys → length (x ∷ xs) ≡ length (b ∷ t) + length ys
    go true f e = omega (arith, f e)
    go false f e = let z : ◌≡◌ {A = ℕ} 0 1 = cc in omega arith

module _ (limit k : ℕ) (p : 0 < k) (most : limit ≤ 10 ^ k) (xs : List ℕ) where
  figure-length : (f : Figure) → figure limit xs ≡ Some f → length xs ≤ k + length f.rest
  figure-length f e =
      let r = figure-read limit xs f e in
      omega (arith, most-figures xs k p r.plain (omega (arith, r.value, r.below)), simp length-drop at (ap length r.rest))

-- ---- what says a call has at most n bytes
abbrev AtMost : ℕ → List ℕ → Option Call → Type 0
AtMost n xs o = (c : Call) → o ≡ Some c → length xs ≤ n

at-end : (s : String) (xs : List ℕ) (c : Call) → AtMost (length (text s)) xs (ending s xs c)
at-end s xs c d e = go (past (text s) xs) refl e
  where
    go : (o : Option (List ℕ)) → past (text s) xs ≡ o → then o (at_end c) ≡ Some d → length xs ≤ length (text s)
    go None h e = let z : ◌≡◌ {A = ℕ} 0 1 = cc in omega arith
    go (Some []) h e = omega (arith, past-length (text s) xs [] h)
    go (Some (y ∷ ys)) h e = let z : ◌≡◌ {A = ℕ} 0 1 = cc in omega arith

module _ (limit k : ℕ) (p : 0 < k) (most : limit ≤ 10 ^ k) where
  number-then : (s : String) (n : ℕ) (xs : List ℕ) (g : Figure → Option Call) → ((f : Figure) → AtMost n f.rest (g f)) → AtMost (length (text s) + k + n) xs (then (number_past s limit xs) g)
  number-then s n xs g more c e = go (past (text s) xs) refl e
    where
      here : (ys : List ℕ) → past (text s) xs ≡ Some ys → (o : Option Figure) → figure limit ys ≡ o → then o g ≡ Some c → length xs ≤ length (text s) + k + n
      here ys h None i e = let z : ◌≡◌ {A = ℕ} 0 1 = cc in omega arith
      here ys h (Some f) i e = omega (arith, past-length (text s) xs ys h, figure-length limit k p most ys f i, more f c e)

      go : (o : Option (List ℕ)) → past (text s) xs ≡ o → then (then o (figure limit)) g ≡ Some c → length xs ≤ length (text s) + k + n
      go None h e = let z : ◌≡◌ {A = ℕ} 0 1 = cc in omega arith
      go (Some ys) h e = here ys h (figure limit ys) refl e

-- keys and values have at most 20 figures, others at most 10
wide-then : (s : String) (n : ℕ) (xs : List ℕ) (g : Figure → Option Call) → ((f : Figure) → AtMost n f.rest (g f)) → AtMost (length (text s) + 20 + n) xs (then (number_past s wide xs) g)
wide-then = number-then wide 20 (omega arith) (omega arith)

narrow-then : (s : String) (n : ℕ) (xs : List ℕ) (g : Figure → Option Call) → ((f : Figure) → AtMost n f.rest (g f)) → AtMost (length (text s) + 10 + n) xs (then (number_past s narrow xs) g)
narrow-then = number-then narrow 10 (omega arith) (omega arith)

put-length : (xs : List ℕ) → AtMost 47 xs (put_line xs)
unfolding put_line
put-length xs = wide-then "(put " 22 xs _ (λ k. wide-then " " 1 k.rest _ (λ v. at-end ")" v.rest _))

get-length : (xs : List ℕ) → AtMost 26 xs (get_line xs)
unfolding get_line
get-length xs = wide-then "(get " 1 xs _ (λ k. at-end ")" k.rest _)

del-length : (xs : List ℕ) → AtMost 26 xs (del_line xs)
unfolding del_line
del-length xs = wide-then "(del " 1 xs _ (λ k. at-end ")" k.rest _)

flush-length : (xs : List ℕ) → AtMost 18 xs (flush_line xs)
unfolding flush_line
flush-length xs = narrow-then "(flush " 1 xs _ (λ k. at-end ")" k.rest _)

count-length : (xs : List ℕ) → AtMost 18 xs (count_line xs)
unfolding count_line
count-length xs = narrow-then "(count " 1 xs _ (λ k. at-end ")" k.rest _)

drop-length : (xs : List ℕ) → AtMost 17 xs (drop_line xs)
unfolding drop_line
drop-length xs = narrow-then "(drop " 1 xs _ (λ k. at-end ")" k.rest _)

format-length : (xs : List ℕ) → AtMost 138 xs (format_line xs)
unfolding format_line
format-length xs =
    narrow-then "(format (parts " 113 xs _ (λ s.
    narrow-then ") (page " 95 s.rest _ (λ p.
    narrow-then ") (pages " 76 p.rest _ (λ q.
    narrow-then ") (kept " 58 q.rest _ (λ k.
    narrow-then ") (bits " 40 k.rest _ (λ m.
    narrow-then ") (hashes " 20 m.rest _ (λ h.
    narrow-then ") (list " 2 h.rest _ (λ d.
    at-end "))" d.rest _)))))))

or-else : (n m : ℕ) (xs : List ℕ) (o p : Option Call) → m ≤ n → AtMost m xs o → AtMost n xs p → AtMost n xs (or_else o p)
or-else n m xs None p l f g c e = g c e
or-else n m xs (Some d) p l f g c e = omega (arith, f c e)

pub call_length : (xs : List ℕ) → AtMost 138 xs (call_of xs)
unfolding call_of
call_length xs =
    or-else 138 47 xs _ _ (omega arith) (put-length xs)
    (or-else 138 26 xs _ _ (omega arith) (get-length xs)
    (or-else 138 26 xs _ _ (omega arith) (del-length xs)
    (or-else 138 18 xs _ _ (omega arith) (flush-length xs)
    (or-else 138 18 xs _ _ (omega arith) (count-length xs)
    (or-else 138 17 xs _ _ (omega arith) (drop-length xs)
    (format-length xs))))))

-- a longer line says none
pub long-says-none : (xs : List ℕ) → 138 < length xs → call_of xs ≡ None
long-says-none xs l = go (call_of xs) (call_length xs)
  where
    go : (o : Option Call) → AtMost 138 xs o → o ≡ None
    go None h = refl
    go (Some c) h = absurd (omega (arith, h c refl))
