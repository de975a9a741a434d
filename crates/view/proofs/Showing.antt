-- Where what a view shows lies.
use Prim.Native.Nat.{ℕ, ◌+◌, ◌≤◌, ◌<◌}
use mathlib.Core.Bool.{Bool, true, false, cond}
use mathlib.Core.List.{List}
use mathlib.Core.Path.{◌≡◌}
use Rattle.std.specs.Prelude.{Result, Ok, Err}
use native.Mathlib.Omega.{arith}
use lib.Dec.{eqb}
use lib.ListN.{length}
use Rattle.model.specs.declared.Geometry.{Geometry}
use Rattle.model.specs.Geometry.{allowed, partitions, memory_need, slot_page_at, flash_need}
use Rattle.model.specs.Page.{expected}
use Rattle.model.specs.Partition.{slot}
use Rattle.model.specs.Answers.{Answer, done, found, absent, shown, refused, in_memory, in_flash}
use Rattle.model.specs.Batch.{batch_page}
use Rattle.model.specs.View.{page_shown, viewed}
use Rattle.model.proofs.Sizes.{partition-fits, buffer-fits, slot_lt, slot-page-fits}
use Rattle.model.proofs.Calls.{viewed-page}
use Rattle.answers.specs.declared.Refusal.{Refusal}
use Rattle.answers.specs.declared.Viewed.{Viewed}
use Rattle.answers.specs.Told as told
use Rattle.answers.specs.Performs.{Inside}

-- what an answer shows lies within its area
abbrev Shows : Answer → List ℕ → List ℕ → Type 0
Shows (done n) m f = Unit {0}
Shows (found v r p) m f = Unit {0}
Shows (absent r) m f = Unit {0}
Shows (shown (in_memory at size)) m f = at + size ≤ length m
Shows (shown (in_flash at size)) m f = at + size ≤ length f
Shows (refused n r) m f = Unit {0}

told-inside : (r : Result Viewed Refusal) (m f : List ℕ) → Shows (told.viewed r) m f → Inside r m f
told-inside (Ok (Viewed.Memory at size)) m f h = h
told-inside (Ok (Viewed.Flash at size)) m f h = h
told-inside (Err r) m f h = tt

module _ (g : Geometry) (t q n : ℕ) (m f : List ℕ) (ok : allowed g ≡ true) (lm : memory_need g ≤ length m) (lf : flash_need g ≤ length f) (lt : t < partitions g) (lq : q < g.pages) where
  flash-shown : (b : Bool) → Shows (cond b (shown (in_flash (slot_page_at g t (slot g n) q) g.page)) (refused 13 1)) m f
  flash-shown true = omega (arith, slot-page-fits g t (slot g n) q lt (slot_lt g ok n) lq)
  flash-shown false = tt

  page-shown : (b : Bool) → Shows (page_shown b g t q n f) m f
  page-shown true = omega (arith, partition-fits g t lt, buffer-fits g q lq)
  page-shown false = flash-shown (expected g t n q (batch_page g t f n q))

  -- a page that is shown lies within its area
  pub shown-inside : (r : Result Viewed Refusal) → told.viewed r ≡ viewed g t q n f → Inside r m f
  shown-inside r e = told-inside r m f (rw (e, viewed-page g t q n f) (page-shown (eqb n 0)))
