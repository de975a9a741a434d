-- Bytes written one behind another, and room for them.
use mathlib.Core.Path.{◌≡◌, refl, sym, ◌∙◌}
use mathlib.Core.List.{List, ◌++◌, append_assoc}
use Prim.Native.Nat.{ℕ, ◌+◌, ◌≤◌}
use native.Mathlib.Omega.{arith}
use lib.ListN.{length, length-append, take, drop}
use Rattle.std.proofs.lemmas.List.{take-append-drop}
use Rattle.std.proofs.lemmas.List.Edits.{sets-eq}
use Rattle.model.proofs.Parts.{sets-append}
use Rattle.model.specs.Text.{decimal}
use Rattle.model.specs.PartitionText.{put_text}
use Rattle.printer.specs.Puts.{Puts, room}
use Rattle.model.proofs.Decimals.{length-decimal}

-- bytes written in place, of which a writer tells where they begin: before them and behind them all is as it was
pub puts-ending : (bytes xs ys : List ℕ) (start at : ℕ) → start + length bytes ≡ at + length bytes → at + length bytes ≤ length xs → take start ys ≡ take start xs → drop start ys ≡ bytes ++ drop (at + length bytes) xs → Puts bytes at xs (at + length bytes) ys
puts-ending bytes xs ys start at e h before written =
    let same : start ≡ at = omega (arith, e) in
    record { ends = refl; holds = sym (take-append-drop start ys) ∙ rw (before, written, same, sets-eq bytes xs at h, append_assoc) }

pub puts-append : {xs ys : List ℕ} {at p r : ℕ} {a b c : List ℕ} → Puts xs at a p b → Puts ys p b r c → Puts (xs ++ ys) at a r c
puts-append {xs} {ys} {at} {p} {r} {a} {b} {c} f g =
    record {
      ends = omega (arith, length-append xs ys, f.ends, g.ends);
      holds = g.holds ∙ rw (f.holds, f.ends, sets-append);
    }

pub puts-three : {ws : List ℕ} (xs ys zs : List ℕ) {at p r : ℕ} {a b c : List ℕ} → Puts ws at a p b → Puts (xs ++ ys ++ zs) p b r c → Puts (ws ++ xs ++ ys ++ zs) at a r c
puts-three xs ys zs f g = simp append_assoc (puts-append f (simp append_assoc at g))

pub puts-five : {ws : List ℕ} (xs ys zs us vs : List ℕ) {at p r : ℕ} {a b c : List ℕ} → Puts ws at a p b → Puts (xs ++ ys ++ zs ++ us ++ vs) p b r c → Puts (ws ++ xs ++ ys ++ zs ++ us ++ vs) at a r c
puts-five xs ys zs us vs f g = simp append_assoc (puts-append f (simp append_assoc at g))

-- eight bytes stand around the figures of both numbers
pub length-put-text : (k v : ℕ) → length (put_text k v) ≡ 8 + length (decimal k) + length (decimal v)
unfolding put_text
length-put-text k v = simp length-append (omega arith)

pub ruleset line_length = (length-put-text, length-decimal)

-- there is room for an answer of one number, two or three, since a number has at most 20 figures
module _ (at head size : ℕ) (l : at + room ≤ size) where
  pub room-one : head ≤ 50 → (n : ℕ) → at + head + length (decimal n) + 2 ≤ size
  room-one h n = omega (arith, length-decimal n)

  pub room-two : head ≤ 29 → (a b : ℕ) → at + head + length (decimal a) + length (decimal b) + 3 ≤ size
  room-two h a b = omega (arith, length-decimal a, length-decimal b)

  pub room-three : head ≤ 8 → (a b c : ℕ) → at + head + length (decimal a) + length (decimal b) + length (decimal c) + 4 ≤ size
  room-three h a b c = omega (arith, length-decimal a, length-decimal b, length-decimal c)
