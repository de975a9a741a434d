-- What a get answers and which batches it reads, on the table without bytes.
use Prim.Native.Nat.{ℕ, zero, suc, ◌-◌, ◌≤◌, ◌<◌}
use mathlib.Core.Path.{◌≡◌, refl, ◌∙◌, ap}
use mathlib.Core.List.{List, []}
use Rattle.std.specs.Prelude.{Option, None, Some}
use native.Mathlib.Omega.{arith}
use Rattle.model.specs.declared.Geometry.{Geometry}
use Rattle.model.specs.Keys.{page_of}
use Rattle.model.specs.Answers.{buffer}
use Rattle.history.specs.History.{Known}
use Rattle.history.proofs.Bare.{Bare, value, nothing, bare_of}
use Rattle.history.proofs.Table.{Part, passing}
use Rattle.history.proofs.Told.{Told, listed, absent as unknown, present}
use Rattle.history.proofs.Core.{seen}
use Rattle.history.proofs.Walk.{look_in, walk, walk_read, LiveBatches, walk-finds, walk-misses, walk-live, passing-live}

-- by the key's stamp and by what the buffer holds of it
abbrev pub looked_up : Geometry → ℕ → Part → Option ℕ → Option ℕ → Bare
looked_up g k p (Some s) b = nothing
looked_up g k p None (Some v) = value v buffer
looked_up g k p None None = walk (look_in g k p) (passing g k p)

abbrev pub batches_for : Geometry → ℕ → Part → Option ℕ → Option ℕ → List ℕ
batches_for g k p (Some s) b = []
batches_for g k p None (Some v) = []
batches_for g k p None None = walk_read (look_in g k p) (passing g k p)

module _ (g : Geometry) (k : ℕ) (p : Part) (within : p.live ≤ p.flushes) where
  by-age : (b : ℕ) → b ≤ p.flushes → look_in g k p b ≡ seen g p k (suc (p.flushes - b))
  by-age b l = ap (look_in g k p) (omega arith)

  pub looked_up-known : page_of g k < g.pages → (m b : Option ℕ) (w : Option Known) → seen g p k 0 ≡ b
      → Told p.live p.flushes m (seen g p k) w → looked_up g k p m b ≡ bare_of p.flushes w
  looked_up-known inside (Some s) b w e (listed silent) = refl
  looked_up-known inside None None w e (unknown silent) =
      walk-misses g k p inside p.live p.flushes within
      (λ b x y. by-age b y ∙ silent (suc (p.flushes - b)) (omega arith))
  looked_up-known inside None (Some v) w e (unknown silent) = let z = silent 0 (omega arith) in cc
  looked_up-known inside None None w e (present {v = v} {a = zero} here fits silent) = cc
  looked_up-known inside None (Some v) w e (present {v = v'} {a = zero} here fits silent) = cc
  looked_up-known inside None None w e (present {v = v} {a = suc a} here fits silent) =
      walk-finds g k p inside p.live p.flushes (p.flushes - a) v (omega arith) (omega arith) here
      (λ b x y. by-age b y ∙ silent (suc (p.flushes - b)) (omega arith))
  looked_up-known inside None (Some v) w e (present {v = v'} {a = suc a} here fits silent) = let z = silent 0 (omega arith) in cc

  pub batches-live : (m b : Option ℕ) → LiveBatches p (suc p.flushes) (batches_for g k p m b)
  batches-live (Some s) b = tt
  batches-live None (Some v) = tt
  batches-live None None = walk-live _ p _ _ (passing-live g k p within)
