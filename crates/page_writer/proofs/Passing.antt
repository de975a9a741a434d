-- The writer asks exactly what 2, 11, 3, 4 and 16 leave.
use Prim.Native.Nat.{ℕ, ◌+◌, ◌<◌, ◌^◌}
use Rattle.std.specs.Prelude.{None}
use mathlib.Core.Path.{◌≡◌, refl, ◌∙◌}
use native.Mathlib.Omega.{arith}
use lib.ListN.{get_or}
use borrow.Author.Tests.{eqb-false, ne_eqb}
use Rattle.model.specs.Answers.{Areas}
use Rattle.model.specs.Calls.{geometry_in, partition_in}
use Rattle.model.specs.Partition.{flushes_of}
use Rattle.model.specs.Refusals.{unopened, last_flush}
use Rattle.model.specs.Flush.{page_checks}
use Rattle.model.proofs.Calls.{Opened, opens, opened, later-passed}
use Rattle.model.proofs.Checks.{page-accepted, page-passes}
use Rattle.partition.proofs.Lending.{partition-words}
use Rattle.page_writer.specs.Writable.{Writable}

module _ (a : Areas) (t q : ℕ) where
  abbrev next : ℕ
  next = flushes_of (partition_in a t) + 1

  -- areas, partition and page on which none of them refuses meet it, and the number has 32 bits
  pub passed-writable : ((i : ℕ) → get_or a.memory i 0 < 256) → unopened a (page_checks (geometry_in a) t q (partition_in a t)) ≡ None
      → Writable (geometry_in a) t q next a.memory a.flash × (next < 2 ^ 32)
  passed-writable bytes passed =
      let o = opened a _ passed in
      let c = page-accepted (geometry_in a) t q (partition_in a t) (later-passed a _ passed) in
      let other = eqb-false (flushes_of (partition_in a t)) last_flush c.2 in
      let words = partition-words (geometry_in a) t a.memory bytes in
      (record { fine = o.fine; memory_fits = o.memory_fits; flash_fits = o.flash_fits; partition_below = c.0; page_below = c.1; number_next = refl }, omega (arith, other, words.flushes))

  -- and on an opened table none of them refuses what meets it
  pub writable-passed : Opened a → (n : ℕ) → n < 2 ^ 32 → Writable (geometry_in a) t q n a.memory a.flash → unopened a (page_checks (geometry_in a) t q (partition_in a t)) ≡ None
  writable-passed o n small w =
      opens a o _ ∙ page-passes (geometry_in a) t q (partition_in a t) w.partition_below w.page_below (ne_eqb (flushes_of (partition_in a t)) last_flush (λ e. omega (arith, small, w.number_next)))
