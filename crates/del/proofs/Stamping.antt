-- The stamp is at all times that of the batches from here on: each batch whose filter does not pass the key keeps it so.
use Prim.Native.Nat.{ℕ, ◌+◌, ◌-◌, ◌≤◌, ◌<◌}
use mathlib.Core.Bool.{true, false}
use mathlib.Core.List.{List}
use mathlib.Core.Path.{◌≡◌, ◌∙◌}
use native.Mathlib.Omega.{arith}
use Rattle.std.specs.Prelude.{Some, None}
use Rattle.model.specs.declared.Geometry.{Geometry}
use Rattle.model.specs.Partition.{flushes_of, live_of, batch_passes, passing_from}
use Rattle.model.specs.Del.{youngest, stamp_for}
use Rattle.model.proofs.Passing.{pass-take, pass-skip, pass-end, passing-from}

module _ (g : Geometry) (k : ℕ) (p : List ℕ) (live flushes : ℕ) where
  -- it is that of the batches older than the `age` youngest
  abbrev pub StampAt : ℕ → Type 0
  StampAt age = stamp_for g k p ≡ youngest (passing_from g k p (live - age) (flushes - age))

  pub stamp-all : live ≡ live_of p → flushes ≡ flushes_of p → StampAt 0
  stamp-all el ef = let l : live - 0 ≡ live_of p = omega arith in let f : flushes - 0 ≡ flushes_of p = omega arith in rw (passing-from g k p, l, f)

  module _ (age : ℕ) (left : StampAt age) where
    pub stamp-none : live ≤ age → stamp_for g k p ≡ None
    stamp-none l = left ∙ rw (pass-end g k p (live - age) (flushes - age) (omega arith))

    module _ (l : age < live) where
      pub stamp-here : batch_passes g k p (flushes - age) ≡ true → stamp_for g k p ≡ Some (flushes - age)
      stamp-here h = left ∙ rw (pass-take g k p (live - age) (flushes - age) (omega arith) h)

      pub stamp-skip : batch_passes g k p (flushes - age) ≡ false → StampAt (age + 1)
      stamp-skip h =
          let fewer : live - age - 1 ≡ live - (age + 1) = omega arith in
          let older : flushes - age - 1 ≡ flushes - (age + 1) = omega arith in
          left ∙ rw (pass-skip g k p (live - age) (flushes - age) (omega arith) h, fewer, older)
