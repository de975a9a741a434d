-- From each test of the code to what the flush does: the tests are the definition's, in its order.
use Prim.Native.Nat.{ℕ, ◌<◌}
use mathlib.Core.Bool.{true, false}
use mathlib.Core.List.{List}
use mathlib.Core.Path.{◌≡◌}
use Rattle.std.specs.Prelude.{Err}
use Rattle.model.specs.declared.Geometry.{Geometry}
use Rattle.model.specs.Geometry.{partitions}
use Rattle.model.specs.Partition.{Head, head_of}
use Rattle.model.specs.Answers.{unread}
use Rattle.model.specs.Refusals.{head_overfull, some_page_overfull}
use Rattle.model.specs.Flush.{in_use}
use Rattle.model.proofs.Checks.{flush-12, flush-12-page, flush-last}
use Rattle.outgoing.specs.Leaving.{leaving_for}
use Rattle.flush.specs.Plans.{plan_for}

-- h is the head that was read
module _ (g : Geometry) (t : ℕ) (p f : List ℕ) (below : t < partitions g) (h : Head) (own : h ≡ head_of p) where
  pub over : head_overfull g h ≡ true → Err (unread 12) ≡ plan_for g t p f
  unfolding plan_for
  over e = rw (flush-12 g t p f below (rw own at e))

  module _ (fits : head_overfull g h ≡ false) where
    pub page_over : some_page_overfull g p ≡ true → Err (unread 12) ≡ plan_for g t p f
    unfolding plan_for
    page_over e = rw (flush-12-page g t p f below (rw own at fits) e)

    module _ (pages : some_page_overfull g p ≡ false) where
      pub unused : in_use g p ≡ false → Err (unread 15) ≡ plan_for g t p f
      unfolding plan_for
      unused e = rw (flush-last g t p f below (rw own at fits) pages, e)

      pub then_due : in_use g p ≡ true → leaving_for g t 0 p f ≡ plan_for g t p f
      unfolding leaving_for plan_for
      then_due e = rw (flush-last g t p f below (rw own at fits) pages, e)
