-- What the lines of a text put: a text of whole lines that are puts, whatever text follows, and such texts joined.
use Prim.Native.Nat.{ℕ, zero, suc, ◌^◌, ◌<◌}
use mathlib.Core.Bool.{cond}
use mathlib.Core.Path.{◌≡◌, refl, sym, ◌∙◌, ap}
use mathlib.Core.List.{List, [], ◌∷◌, ◌++◌, map, append_assoc, append-nil}
use native.Mathlib.Omega.{arith}
use lib.Dec.{eqb}
use Rattle.model.specs.PartitionText.{put_text, joined}
use Rattle.model.specs.Session.{call_of, lines_of}
use Rattle.model.proofs.Tests.{either}
use Rattle.model.proofs.PutLines.{put-cut, put-said}
use Rattle.model.proofs.Joining.{joined-none, joined-more}
use Rattle.history.specs.Telling.{put_of, values_of}

values-append : (k : ℕ) (es fs : List (ℕ × ℕ)) → values_of k (es ++ fs) ≡ values_of k es ++ values_of k fs
unfolding values_of
values-append k [] fs = refl
values-append k (e ∷ es) fs = either (eqb e.0 k) (λ h. simp (h, values-append k es fs)) (λ h. simp (h, values-append k es fs))

map-append : (es fs : List (ℕ × ℕ)) → map put_of (es ++ fs) ≡ map put_of es ++ map put_of fs
map-append [] fs = refl
map-append (e ∷ es) fs = ap (λ cs. put_of e ∷ cs) (map-append es fs)

-- the text xs puts under each key these values
pub record Puts (xs : List ℕ) (values : ℕ → List ℕ) : Type 0 where
  pub puts : List (ℕ × ℕ)
  pub lines : (rest : List ℕ) → map call_of (lines_of (xs ++ rest)) ≡ map put_of puts ++ map call_of (lines_of rest)
  pub each : (k : ℕ) → values_of k puts ≡ values k

pub puts_none : Puts [] (λ k. [])
unfolding values_of
puts_none = record { puts = []; lines = λ rest. refl; each = λ k. refl }

puts-append : {xs ys : List ℕ} {f g : ℕ → List ℕ} → Puts xs f → Puts ys g → Puts (xs ++ ys) (λ k. f k ++ g k)
puts-append {xs} {ys} one more = record {
  puts = one.puts ++ more.puts;
  lines = λ rest. rw (append_assoc xs ys rest, map-append one.puts more.puts, append_assoc (map put_of one.puts) (map put_of more.puts) (map call_of (lines_of rest)), ← more.lines rest) (one.lines (ys ++ rest));
  each = λ k. rw (values-append k one.puts more.puts, one.each k, more.each k);
}

-- the line of a put
pub puts-line : (j v : ℕ) → j < 2 ^ 64 → v < 2 ^ 64 → Puts (put_text j v) (λ k. cond (eqb j k) (v ∷ []) [])
unfolding values_of
puts-line j v hj hv = record {
  puts = (j, v) ∷ [];
  lines = λ rest. rw (put-cut j v hj hv rest, put-said j v hj hv);
  each = λ k. refl;
}

pub puts-same : {xs : List ℕ} {f g : ℕ → List ℕ} → ((k : ℕ) → f k ≡ g k) → Puts xs f → Puts xs g
puts-same same one = record { puts = one.puts; lines = one.lines; each = λ k. one.each k ∙ same k }

pub puts-joined : (n : ℕ) (texts : ℕ → List ℕ) (values : ℕ → ℕ → List ℕ) → ((i : ℕ) → i < n → Puts (texts i) (values i)) → Puts (joined n texts) (λ k. joined n (λ i. values i k))
puts-joined zero texts values each = rw (joined-none texts) (puts-same (λ k. sym (joined-none (λ i. values i k))) puts_none)
puts-joined (suc n) texts values each =
    rw (joined-more n texts) (puts-same (λ k. sym (joined-more n (λ i. values i k))) (puts-append (puts-joined n texts values (λ i l. each i (omega arith))) (each n (omega arith))))

-- all its lines
pub all_lines : {xs : List ℕ} {f : ℕ → List ℕ} (one : Puts xs f) → map call_of (lines_of xs) ≡ map put_of one.puts
unfolding lines_of
all_lines {xs} one = rw (append-nil xs, append-nil (map put_of one.puts)) at (one.lines [])
