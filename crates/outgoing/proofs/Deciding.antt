-- From what was read of the batch that a flush pushes out to what the flush does.
use Prim.Native.Nat.{ℕ, ◌+◌, ◌-◌, ◌≤◌, ◌<◌}
use mathlib.Core.Bool.{Bool}
use mathlib.Core.List.{List}
use mathlib.Core.Path.{◌≡◌, refl}
use native.Mathlib.Nat.{add-mod_right}
use native.Mathlib.Omega.{arith}
use borrow.Author.Tests.{le-leb, lt-leb}
use Rattle.std.specs.Prelude.{Option, None, Some, Ok, Err}
use Rattle.model.specs.declared.Geometry.{Geometry}
use Rattle.model.specs.Partition.{Head, head_of, live_of, slot, oldest}
use Rattle.model.specs.Batch.{pushes_out, failed_head, leaving}
use Rattle.model.specs.Answers.{Refusal, unread}
use Rattle.model.specs.Flush.{due_checks}
use Rattle.model.specs.Refusals.{refuse_if, refuse_head, total_out, last_flush}
use Rattle.model.proofs.Checks.{due-16, due-read}
use Rattle.answers.specs.Told.{unless}
use Rattle.outgoing.specs.Leaving.{heads_of, outgoing_of, leaving_for}

-- ---- what is done tells the checks
pub refused-by : (o : Option Refusal) (n : ℕ) (r : Refusal) → unless o n ≡ Err r → o ≡ Some r
refused-by None n r e = cc
refused-by (Some x) n r e = cc

pub passed-with : (o : Option Refusal) (n m : ℕ) → unless o n ≡ Ok m → (o ≡ None) × (m ≡ n)
passed-with None n m e = (refl, cc)
passed-with (Some x) n m e = cc

-- ---- heads that were read, and then the total, with their entries less
pub heads_failed : (failed : Option ℕ) (later : Option Refusal) (n : ℕ) (r : Refusal)
    → Err r ≡ unless (refuse_head failed None) n → Err r ≡ unless (refuse_head failed later) n
heads_failed None later n r e = cc
heads_failed (Some q) later n r e = e

pub heads_passed : (g : Geometry) (more : ℕ) (h : Head) (failed : Option ℕ) (n m : ℕ) → Ok m ≡ unless (refuse_head failed None) n → (out : Bool) → out ≡ total_out g more m h
    → unless (refuse_if out 12 None) m ≡ unless (refuse_head failed (refuse_if (total_out g more n h) 12 None)) n
heads_passed g more h None n m e out eo = let same : m ≡ n = cc in rw (eo, same)
heads_passed g more h (Some q) n m e out eo = cc

-- ---- batch F + 1 takes the slot of the one that it pushes out
pub slot-again : (g : Geometry) (F live : ℕ) → live ≡ g.kept → live ≤ F → slot g (F + 1) ≡ slot g (F - live + 1)
slot-again g F live full l =
    let new : F + 1 - 1 ≡ F - g.kept + g.kept = omega arith in
    let old : F - live + 1 - 1 ≡ F - g.kept = omega arith in
    rw (new, old) (add-mod_right (F - g.kept) g.kept)

module _ (g : Geometry) (t : ℕ) (p f : List ℕ) where
  -- ---- fewer than K are live: nothing leaves; otherwise the oldest does
  pub none_out : live_of p < g.kept → Ok 0 ≡ outgoing_of g t p f
  unfolding outgoing_of failed_head leaving pushes_out
  none_out l = rw (lt-leb g.kept (live_of p) l)

  pub oldest-out : g.kept ≤ live_of p → (n : ℕ) → n ≡ oldest (head_of p) → heads_of g t n f ≡ outgoing_of g t p f
  unfolding heads_of outgoing_of failed_head leaving pushes_out
  oldest-out l n en = rw (le-leb g.kept (live_of p) l, en)

  -- ---- 16, then what was read, then the total, by the head h that was read
  module _ (more : ℕ) (h : Head) (own : h ≡ head_of p) where
    pub no_number : h.flushes ≡ last_flush → Err (unread 16) ≡ leaving_for g t more p f
    unfolding leaving_for
    no_number e = rw (due-16 g t more p f (rw own at e))

    module _ (number : h.flushes ≡ last_flush → ⊥) where
      due : due_checks g t more p f ≡ refuse_head (failed_head g t p f) (refuse_if (total_out g more (leaving g t p f) (head_of p)) 12 None)
      due = due-read g t more p f (λ e. number (rw own e))

      pub no_batch : (r : Refusal) → Err r ≡ outgoing_of g t p f → Err r ≡ leaving_for g t more p f
      unfolding leaving_for outgoing_of
      no_batch r e = rw due (heads_failed _ _ _ r e)

      pub then_total : (n : ℕ) → Ok n ≡ outgoing_of g t p f → (out : Bool) → out ≡ total_out g more n h → unless (refuse_if out 12 None) n ≡ leaving_for g t more p f
      unfolding leaving_for outgoing_of
      then_total n e out eo = rw due (heads_passed g more (head_of p) _ _ n e out (rw own at eo))
