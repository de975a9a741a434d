-- How far a session has come: the lines that were run, and the text that was read.
use Prim.Native.Nat.{ℕ, zero, suc, ◌-◌, ◌≤◌, ◌<◌}
use Rattle.std.specs.Prelude.{Option, None, Some, Result, Ok, Err}
use mathlib.Core.List.{List, [], ◌++◌, append_assoc, append-nil}
use mathlib.Core.Path.{◌≡◌, refl, sym, ◌∙◌, ap}
use native.Mathlib.Omega.{arith}
use lib.ListN.{length, take, drop, take-append-drop, length-take}
use lib.Seq.{take-take}
use Rattle.model.specs.Answers.{Areas}
use Rattle.model.specs.Session.{lines_of, lines_leave}
use Rattle.model.proofs.Sessions.{leave_none}
use Rattle.lines.specs.Lines.{Whole, longest}
use Rattle.lines.proofs.Lines.{whole-none, whole-more}
use Rattle.session.proofs.Pieces.{leave-pieces}
use Rattle.held.specs.declared.Rest.{Rest}
use Rattle.held.specs.Held.{Held, held_bytes, AtStart, Within}
use Rattle.pieces.specs.Pieces.{Went, MadeOf}
use Rattle.relay_session.specs.Session.{IsSession}
use Rattle.held.proofs.Holding.{kept-short, kept_same}

-- The lines were run on a and left a'. There the bytes that are held do what the whole text does on a, whatever follows.
pub record Reached (rest : Rest) (input : List ℕ) (a a' : Areas) : Type 0 where
  pub lines : List ℕ
  pub whole : Whole lines
  pub leaves : a' ≡ lines_leave (lines_of lines) a
  pub text : List ℕ
  pub carries : (more : List ℕ) → lines_leave (lines_of (held_bytes rest input ++ more)) a' ≡ lines_leave (lines_of (text ++ more)) a

pub reached-none : (xs : List ℕ) (a : Areas) → Reached (record { at = 0; end = 0 }) xs a a
reached-none xs a = record { lines = []; whole = whole-none; leaves = sym (leave_none a); text = []; carries = λ more. refl }

-- the lines that were run come first
goes_on : {at : ℕ} {xs : List ℕ} {a a' : Areas} → Went at xs a a' → (more : List ℕ) → lines_leave (lines_of (drop at xs ++ more)) a' ≡ lines_leave (lines_of (xs ++ more)) a
goes_on {at} {xs} {a} w more =
    let split : xs ++ more ≡ take at xs ++ (drop at xs ++ more) = ap (λ (ys : List ℕ). ys ++ more) (sym (take-append-drop at xs)) ∙ append_assoc (take at xs) (drop at xs) more in
    sym (rw (split, leave-pieces (take at xs) w.whole (drop at xs ++ more) a, ← w.leaves))

module _ {rest : Rest} {xs : List ℕ} {a a₁ : Areas} (r : Reached rest xs a a₁) where
  -- further lines are run
  runs : {at : ℕ} {ys : List ℕ} {a₂ : Areas} → Went at ys a₁ a₂ → a₂ ≡ lines_leave (lines_of (r.lines ++ take at ys)) a
  runs {at} {ys} w = rw (leave-pieces r.lines r.whole (take at ys) a, ← r.leaves) w.leaves

  -- what is held stands at the start of the buffer, and a turn goes on from there
  module _ {n : ℕ} {ys : List ℕ} (k : AtStart n rest xs ys) (h : Held rest xs) where
    follows : (more : List ℕ) → lines_leave (lines_of (take n ys ++ more)) a₁ ≡ lines_leave (lines_of (r.text ++ more)) a
    follows more = (kept_same k h).leaves more a₁ ∙ r.carries more

    -- a read left these bytes as they were
    module _ (later : List ℕ) (keeps : take n later ≡ take n ys) where
      -- the bytes up to `end` are those held and a piece
      pieces : (end : ℕ) → n ≤ end → take end later ≡ take n ys ++ drop n (take end later)
      pieces end l = sym (take-append-drop n (take end later)) ∙ ap (λ (zs : List ℕ). zs ++ drop n (take end later)) (take-take n end later l ∙ keeps)

      reaches : (rest' : Rest) → n ≤ rest'.end → {a₂ : Areas} → Went rest'.at (take rest'.end later) a₁ a₂ → Reached rest' later a a₂
      reaches rest' l w =
          let piece : List ℕ = drop n (take rest'.end later) in
          record {
            lines = r.lines ++ take rest'.at (take rest'.end later);
            whole = whole-more r.lines _ r.whole w.whole;
            leaves = runs w;
            text = r.text ++ piece;
            carries = λ more. goes_on w more ∙ ap (λ (zs : List ℕ). lines_leave (lines_of (zs ++ more)) a₁) (pieces rest'.end l) ∙ rw (append_assoc (take n ys), append_assoc r.text) (follows (piece ++ more));
          }

      -- what was made of a read: the session goes on, and wherever it ends it was the session of some text
      module _ (o o' : List ℕ) {E : Type 0} {a₂ : Areas} where
        pub goes : {rest' : Rest} → longest < length later → length later ≡ length ys → (read : Result ℕ E) → Within read (length ys - n) → MadeOf read (Ok (Some rest')) n later a₁ o o' a₂ → Reached rest' later a a₂ × Held rest' later
        goes l s (Err e) m f = absurd (cc)
        goes l s (Ok zero) m f = absurd (cc)
        goes {rest'} l s (Ok (suc b)) m f =
            let w = rw (sym f.0) at f.1 in
            let u = rw (sym f.0) at f.2 in (
              reaches rest' (omega (arith, f.0)) w,
              record { begins = omega (arith, w.within, length-take rest'.end later); within = omega (arith, f.0, m, kept-short k h); unended = u },
            )

        pub ends : (read : Result ℕ E) (next : Result (Option Rest) E) → MadeOf read next n later a₁ o o' a₂ → IsSession a a₂
        ends (Err e) next f = record { text = r.lines; leaves = f.1 ∙ r.leaves }
        ends (Ok zero) next f = record { text = r.text; leaves = f.1.leaves ∙ rw keeps (rw (append-nil, append-nil) at (follows [])) }
        ends (Ok (suc b)) (Ok (Some rest')) f = record { text = _; leaves = runs f.1 }
        ends (Ok (suc b)) (Ok None) f = absurd f
        ends (Ok (suc b)) (Err e) f = record { text = _; leaves = runs f.went }
