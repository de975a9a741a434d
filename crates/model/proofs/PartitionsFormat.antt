-- Memory after a format: it opens with the geometry, and each partition is zero but for its emptied buffer pages.
use Prim.Native.Nat.{ℕ, zero, suc, ◌+◌, ◌≤◌, ◌<◌}
use mathlib.Core.Bool.{true}
use mathlib.Core.Path.{◌≡◌, refl, sym, ◌∙◌, ap}
use mathlib.Core.List.{List}
use native.Mathlib.Omega.{arith}
use native.Mathlib.Nat.{zero-add}
use native.Mathlib.Decide.{ℕ_discrete}
use lib.Dec.{leb}
use lib.ListN.{length, get_or, length-replicate, get_or-replicate}
use lib.Seq.{sets, length-sets, ext_get_or}
use borrow.Author.Tests.{leb-true}
use Rattle.model.specs.declared.Geometry.{Geometry}
use Rattle.model.specs.Bytes.{word, write, zeros, within}
use Rattle.model.specs.Geometry.{allowed, partitions, partition_at, stride, memory_need}
use Rattle.model.specs.Opening.{geometry_of, eighth, with_opening}
use Rattle.model.specs.Partition.{partition}
use Rattle.model.specs.Format.{emptied_pages, emptied_partitions, formatted}
use Rattle.model.proofs.Parts.{length-mid, get_or-mid, get_or-sets-in, mid-within, mid-within-out}
use Rattle.model.proofs.Words.{length-write, get_or-write-out, word_write, word-write-out, word-within-out}
use Rattle.model.proofs.Sizes.{sizes, partition-from, partition-fits, partitions-apart}
use Rattle.model.proofs.Lengths.{length-emptied_pages, length-emptied_partitions, length-with_opening}

-- a word before the one that is written
skip : (v at b : ℕ) (xs : List ℕ) → leb (b + 4) at ≡ true → word 4 (write 4 v at xs) b ≡ word 4 xs b
skip v at b xs h = let l = leb-true (b + 4) at h in word-write-out 4 4 v at xs b (omega arith)

-- the opening numbers are read back
module _ (g : Geometry) (ok : allowed g ≡ true) (m : List ℕ) (room : 32 ≤ length m) where
  parts-back : word 4 (with_opening g m) 0 ≡ g.parts
  unfolding with_opening
  parts-back = simp skip (word_write 4 g.parts 0 _ (omega arith) (omega (arith, (sizes g ok).parts-max)))

  page-back : word 4 (with_opening g m) 4 ≡ g.page
  unfolding with_opening
  page-back = simp skip (word_write 4 g.page 4 _ (simp length-write (omega arith)) (omega (arith, (sizes g ok).page-max)))

  pages-back : word 4 (with_opening g m) 8 ≡ g.pages
  unfolding with_opening
  pages-back = simp skip (word_write 4 g.pages 8 _ (simp length-write (omega arith)) (omega (arith, (sizes g ok).pages-max)))

  kept_back : word 4 (with_opening g m) 12 ≡ g.kept
  unfolding with_opening
  kept_back = simp skip (word_write 4 g.kept 12 _ (simp length-write (omega arith)) (omega (arith, (sizes g ok).kept-max)))

  bits_back : word 4 (with_opening g m) 16 ≡ g.bits
  unfolding with_opening
  bits_back = simp skip (word_write 4 g.bits 16 _ (simp length-write (omega arith)) (omega (arith, (sizes g ok).bits-max)))

  hashes-back : word 4 (with_opening g m) 20 ≡ g.hashes
  unfolding with_opening
  hashes-back = simp skip (word_write 4 g.hashes 20 _ (simp length-write (omega arith)) (omega (arith, (sizes g ok).hashes-max)))

  list_back : word 4 (with_opening g m) 24 ≡ g.list
  unfolding with_opening
  list_back = simp skip (word_write 4 g.list 24 _ (simp length-write (omega arith)) (omega (arith, (sizes g ok).list-max)))

  read_back : geometry_of (with_opening g m) ≡ g
  unfolding geometry_of
  read_back = rw (parts-back, page-back, pages-back, kept_back, bits_back, hashes-back, list_back)

  eighth-back : eighth (with_opening g m) ≡ 0
  unfolding with_opening
  eighth-back = word_write 4 0 28 _ (simp length-write room) (omega arith)

  -- and no byte behind them changes
  behind-opening : (i : ℕ) → 32 ≤ i → get_or (with_opening g m) i 0 ≡ get_or m i 0
  unfolding with_opening
  behind-opening i l =
      get_or-write-out 4 _ 28 _ i (omega arith) ∙ get_or-write-out 4 _ 24 _ i (omega arith) ∙ get_or-write-out 4 _ 20 _ i (omega arith) ∙ get_or-write-out 4 _ 16 _ i (omega arith)
      ∙ get_or-write-out 4 _ 12 _ i (omega arith) ∙ get_or-write-out 4 _ 8 _ i (omega arith) ∙ get_or-write-out 4 _ 4 _ i (omega arith) ∙ get_or-write-out 4 _ 0 m i (omega arith)

-- the opening numbers lie before every partition
pub opening-kept : (at n : ℕ) (f : List ℕ → List ℕ) (m : List ℕ) → 32 ≤ at → geometry_of (within at n f m) ≡ geometry_of m
unfolding geometry_of
opening-kept at n f m l = rw (kept 0 (omega arith), kept 4 (omega arith), kept 8 (omega arith), kept 12 (omega arith), kept 16 (omega arith), kept 20 (omega arith), kept 24 (omega arith))
  where
    kept : (b : ℕ) → b + 4 ≤ 32 → word 4 (within at n f m) b ≡ word 4 m b
    kept b h = word-within-out 4 at n f m b (omega arith)

-- the partitions emptied one by one
module _ (g : Geometry) (m : List ℕ) (fits : memory_need g ≤ length m) where
  kept-opening : (n : ℕ) → geometry_of (emptied_partitions g n m) ≡ geometry_of m
  unfolding emptied_partitions
  kept-opening zero = refl
  kept-opening (suc n) = opening-kept (partition_at g n) (stride g) _ _ (partition-from g n) ∙ kept-opening n

  kept-eighth : (n : ℕ) → eighth (emptied_partitions g n m) ≡ eighth m
  unfolding emptied_partitions
  kept-eighth zero = refl
  kept-eighth (suc n) = word-within-out 4 (partition_at g n) (stride g) _ _ 28 (omega (arith, partition-from g n)) ∙ kept-eighth n

  not_yet : (n t : ℕ) → n ≤ t → t < partitions g → partition g t (emptied_partitions g n m) ≡ partition g t m
  unfolding emptied_partitions
  not_yet zero t l below = refl
  not_yet (suc n) t l below =
      mid-within-out (partition_at g n) (stride g) _ (emptied_partitions g n m) (partition_at g t) (stride g)
      (omega (arith, length-emptied_partitions g n m, partition-fits g t below)) (partitions-apart g n t (omega arith))
      ∙ not_yet n t (omega arith) below

  emptied-partition : (n t : ℕ) → n ≤ partitions g → t < n → partition g t (emptied_partitions g n m) ≡ emptied_pages g t g.pages (partition g t m)
  unfolding emptied_partitions
  emptied-partition zero t h l = absurd (omega arith)
  emptied-partition (suc n) t h l =
      let long = length-emptied_partitions g n m in
      elim (ℕ_discrete t n) [
        | yes e ↦ rw e (mid-within (partition_at g n) (stride g) _ (emptied_partitions g n m) (omega (arith, long, partition-fits g n h))
            (length-emptied_pages g n g.pages _ ∙ length-mid (partition_at g n) (stride g) _ (omega (arith, long, partition-fits g n h)))
            ∙ ap (emptied_pages g n g.pages) (not_yet n n (omega arith) h))
        | no e ↦ mid-within-out (partition_at g n) (stride g) _ (emptied_partitions g n m) (partition_at g t) (stride g)
            (omega (arith, long, partition-fits g t (omega arith))) (partitions-apart g n t (omega arith))
            ∙ emptied-partition n t (omega arith) (omega arith)
      ]

module _ (g : Geometry) (ok : allowed g ≡ true) (m : List ℕ) (fits : memory_need g ≤ length m) where
  need : 32 ≤ memory_need g
  need = omega (arith, partition-from g 0, partition-fits g 0 (sizes g ok).partitions-min)

  cleared : List ℕ
  cleared = sets m 0 (zeros (memory_need g))

  cleared-room : 32 ≤ length cleared
  unfolding cleared
  cleared-room = omega (arith, need, length-sets m 0 (zeros (memory_need g)))

  -- memory with the opening numbers, and zero behind them
  opened : List ℕ
  opened = with_opening g cleared

  opened-fits : memory_need g ≤ length opened
  unfolding opened cleared
  opened-fits = omega (arith, length-with_opening g cleared, length-sets m 0 (zeros (memory_need g)))

  zero-behind : (i : ℕ) → 32 ≤ i → i < memory_need g → get_or opened i 0 ≡ 0
  unfolding opened cleared
  zero-behind i l h =
      behind-opening g ok cleared cleared-room i l
      ∙ (simp zero-add at (get_or-sets-in (zeros (memory_need g)) m 0 i (simp length-replicate h) (simp length-replicate (omega arith))))
      ∙ get_or-replicate (memory_need g) i 0 0 h

  -- so a partition is zero
  zero-partition : (t : ℕ) → t < partitions g → partition g t opened ≡ zeros (stride g)
  zero-partition t l =
      let inside = partition-fits g t l in
      let long : length (partition g t opened) ≡ stride g = length-mid (partition_at g t) (stride g) opened (omega (arith, opened-fits)) in
      ext_get_or 0 (partition g t opened) (zeros (stride g)) (long ∙ sym (length-replicate (stride g) 0))
      (λ i b.
      get_or-mid (partition_at g t) (stride g) opened i (omega arith)
      ∙ zero-behind (partition_at g t + i) (omega (arith, partition-from g t)) (omega arith)
      ∙ sym (get_or-replicate (stride g) i 0 0 (omega arith)))

  pub formatted-geometry : geometry_of (formatted g m) ≡ g
  unfolding formatted opened cleared
  formatted-geometry = kept-opening g opened opened-fits (partitions g) ∙ read_back g ok cleared cleared-room

  pub formatted-eighth : eighth (formatted g m) ≡ 0
  unfolding formatted opened cleared
  formatted-eighth = kept-eighth g opened opened-fits (partitions g) ∙ eighth-back g ok cleared cleared-room

  pub formatted-partition : (t : ℕ) → t < partitions g → partition g t (formatted g m) ≡ emptied_pages g t g.pages (zeros (stride g))
  unfolding formatted opened cleared
  formatted-partition t l = emptied-partition g opened opened-fits (partitions g) t (omega arith) l ∙ ap (emptied_pages g t g.pages) (zero-partition t l)
