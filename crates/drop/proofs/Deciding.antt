-- From what was read of the partition's head and of its oldest live batch to what the drop does.
use Prim.Native.Nat.{ℕ, ◌<◌}
use mathlib.Core.Bool.{Bool, true, false}
use mathlib.Core.List.{List}
use mathlib.Core.Path.{◌≡◌}
use Rattle.std.specs.Prelude.{None, Ok, Err}
use Rattle.model.specs.declared.Geometry.{Geometry}
use Rattle.model.specs.Geometry.{partitions}
use Rattle.model.specs.Partition.{Head, head_of, oldest}
use Rattle.model.specs.Batch.{failed_page}
use Rattle.model.specs.Answers.{Refusal, unread}
use Rattle.model.specs.Refusals.{refuse_if, refuse_head, head_overfull, total_out}
use Rattle.model.specs.Drop.{oldest_entries, drop_checks}
use Rattle.model.proofs.Checks.{drop-12, drop-23, drop-read}
use Rattle.answers.specs.Told.{unless}
use Rattle.outgoing.specs.Leaving.{heads_of}
use Rattle.outgoing.proofs.Deciding.{heads_failed, heads_passed}
use Rattle.drop.specs.Plans.{plan_for}

-- h is the head that was read
module _ (g : Geometry) (t : ℕ) (p f : List ℕ) (below : t < partitions g) (h : Head) (own : h ≡ head_of p) where
  pub over : head_overfull g h ≡ true → Err (unread 12) ≡ plan_for g t p f
  unfolding plan_for
  over e = rw (drop-12 g t p f below (rw own at e))

  module _ (fits : head_overfull g h ≡ false) where
    pub none_live : h.live ≡ 0 → Err (unread 23) ≡ plan_for g t p f
    unfolding plan_for
    none_live e = rw (drop-23 g t p f below (rw own at fits) (rw own at e))

    module _ (any : h.live ≡ 0 → ⊥) where
      checked : drop_checks g t p f ≡ refuse_head (failed_page g t f (oldest (head_of p))) (refuse_if (total_out g 0 (oldest_entries g t p f) (head_of p)) 12 None)
      checked = drop-read g t p f below (rw own at fits) (λ e. any (rw own e))

      pub no_batch : (r : Refusal) → Err r ≡ heads_of g t (oldest h) f → Err r ≡ plan_for g t p f
      unfolding plan_for heads_of
      no_batch r e = rw checked (heads_failed _ _ _ r (rw own at e))

      pub then_total : (n : ℕ) → Ok n ≡ heads_of g t (oldest h) f → (out : Bool) → out ≡ total_out g 0 n h → unless (refuse_if out 12 None) n ≡ plan_for g t p f
      unfolding plan_for heads_of
      then_total n e out eo = rw checked (heads_passed g 0 (head_of p) _ _ n (rw own at e) out (rw own at eo))
