-- The bytes of a page that a call shows are a 32-bit number.
use Prim.Native.Nat.{ℕ, ◌<◌, ◌^◌}
use mathlib.Core.Bool.{Bool, true, false, cond}
use mathlib.Core.List.{List}
use Rattle.std.specs.Prelude.{Option, None, Some, Result, Ok, Err}
use mathlib.Core.Path.{◌≡◌, refl}
use native.Mathlib.Omega.{arith}
use lib.Dec.{eqb}
use lib.ListN.{get_or}
use Rattle.model.specs.declared.Geometry.{Geometry}
use Rattle.model.specs.Answers.{Areas, Refusal, Answer, done, found, absent, shown, refused, in_memory, in_flash}
use Rattle.model.specs.Geometry.{slot_page_at}
use Rattle.model.specs.Opening.{geometry_of}
use Rattle.model.specs.Page.{expected}
use Rattle.model.specs.Partition.{slot}
use Rattle.model.specs.Batch.{batch_page}
use Rattle.model.specs.View as view
use Rattle.model.specs.Calls.{Call, checks, result, reply}
use Rattle.model.proofs.Calls.{viewed-page, result-view, reply-refused, reply-accepted}
use Rattle.model.proofs.Words.{word_lt}
use Rattle.answers.specs.declared.Refusal as told
use Rattle.answers.specs.declared.Viewed.{Viewed}
use Rattle.answers.specs.Told.{viewed}
use Rattle.answers.specs.Performs.{areas}
use Rattle.exported.specs.Exported.{SizeFits}

-- what an answer shows has fewer than 2 ^ 32 bytes
abbrev Fits : Answer → Type 0
Fits (done n) = Unit {0}
Fits (found v c p) = Unit {0}
Fits (absent c) = Unit {0}
Fits (shown (in_memory at size)) = size < 2 ^ 32
Fits (shown (in_flash at size)) = size < 2 ^ 32
Fits (refused n r) = Unit {0}

told-fits : (r : Result Viewed told.Refusal) → Fits (viewed r) → SizeFits r
told-fits (Ok (Viewed.Memory at size)) h = h
told-fits (Ok (Viewed.Flash at size)) h = h
told-fits (Err r) h = tt

module _ (g : Geometry) (small : g.page < 2 ^ 32) (t q n : ℕ) (f : List ℕ) where
  flash-fits : (b : Bool) → Fits (cond b (shown (in_flash (slot_page_at g t (slot g n) q) g.page)) (refused 13 1))
  flash-fits true = small
  flash-fits false = tt

  page-fits : (b : Bool) → Fits (view.page_shown b g t q n f)
  page-fits true = small
  page-fits false = flash-fits (expected g t n q (batch_page g t f n q))

reply-fits : (a : Areas) (c : Call) → Fits (result a c) → Fits (reply a c)
reply-fits a c h = go (checks a c) refl
  where
    go : (o : Option Refusal) → checks a c ≡ o → Fits (reply a c)
    go (Some r) e = rw (reply-refused a c r e) tt
    go None e = rw (reply-accepted a c e) h

-- P is a number of four bytes
page-small : (m : List ℕ) → ((i : ℕ) → get_or m i 0 < 256) → (geometry_of m).page < 2 ^ 32
unfolding geometry_of
page-small m bytes = omega (arith, word_lt 4 m 4 bytes)

pub size_fits : (m f : List ℕ) (t q n : ℕ) (r : Result Viewed told.Refusal) → ((i : ℕ) → get_or m i 0 < 256) → viewed r ≡ reply (areas m f) (Call.view t q n) → SizeFits r
size_fits m f t q n r bytes e =
    let s = page-fits (geometry_of m) (page-small m bytes) t q n f (eqb n 0) in
    told-fits r (rw e (reply-fits (areas m f) (Call.view t q n) (rw (result-view (areas m f) (geometry_of m) refl t q n, viewed-page (geometry_of m) t q n f) s)))
