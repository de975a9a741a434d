-- What can be flushed, from what the checks of a flush or of a put tell.
use Prim.Native.Nat.{ℕ, ◌<◌}
use mathlib.Core.Bool.{false}
use mathlib.Core.List.{List}
use mathlib.Core.Path.{◌≡◌}
use native.Mathlib.Omega.{arith}
use lib.Dec.{eqb}
use borrow.Author.Tests.{eqb-false}
use Rattle.model.specs.declared.Geometry.{Geometry}
use Rattle.model.specs.Geometry.{partitions}
use Rattle.model.specs.Partition.{head_of, flushes_of}
use Rattle.model.specs.Refusals.{head_overfull, some_page_overfull, last_flush}
use Rattle.model.proofs.Heads.{HeadWords}
use Rattle.partition.specs.Ready.{Flushable}

pub flushable : (g : Geometry) (t : ℕ) (p : List ℕ) → HeadWords (head_of p) → t < partitions g → head_overfull g (head_of p) ≡ false → some_page_overfull g p ≡ false → eqb (flushes_of p) last_flush ≡ false → Flushable g t p
flushable g t p words below head pages last =
    let other = eqb-false (flushes_of p) last_flush last in
    record { below = below; head = head; pages = pages; number = omega (arith, other, words.flushes) }
