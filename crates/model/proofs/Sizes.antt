-- What the allowed numbers bound, and where things lie with them. No other file opens the definitions of the offsets.
use mathlib.Core.Bool.{true, false, ◌&&◌, and-true}
use mathlib.Core.Path.{◌≡◌, sym}
use Prim.Native.Nat.{ℕ, ◌+◌, ◌-◌, ◌*◌, ◌%◌, ◌^◌, ◌≤◌, ◌<◌}
use native.Mathlib.Nat.{zero-add, zero-mul, mul-le-mul, mul-le-mul_right, pow-le-pow_right, mod-lt, mod-one}
use native.Mathlib.Omega.{arith}
use lib.Arith.{digits_lt}
use lib.Dec.{leb}
use lib.Pow.{shr_lt}
use borrow.Author.Tests.{leb-true, le-leb}
use Rattle.model.specs.Geometry.{between, is_power, allowed, partitions, capacity, most_entries, filter_size, filter_at, buffer_at, stride, partition_at, memory_need, slot_page_at, flash_need}
use Rattle.model.specs.Card.{first_lost}
use Rattle.model.specs.Keys.{partition_of, page_of, bit_of}
use Rattle.model.specs.Partition.{slot}
use Rattle.model.specs.declared.Geometry.{Geometry}
use Rattle.model.proofs.Tests.{both_true}
use Rattle.model.proofs.Parts.{Apart}
use Rattle.model.proofs.Blocks.{block-le, blocks-apart, digits-one}
use Rattle.model.proofs.Powers.{power, power-multiple, false-if}

pub record Sizes (g : Geometry) : Type 0 where
  pub parts-max : g.parts ≤ 8
  pub partitions-min : 1 ≤ partitions g
  pub partitions-max : partitions g ≤ 256
  pub page-test : is_power 6 12 g.page ≡ true
  pub page-min : 64 ≤ g.page
  pub page-max : g.page ≤ 4096
  pub page-is : g.page ≡ 16 * (capacity g + 1)
  pub page-blocks : g.page % 64 ≡ 0
  pub capacity-min : 3 ≤ capacity g
  pub pages-test : is_power 0 6 g.pages ≡ true
  pub pages-min : 1 ≤ g.pages
  pub pages-max : g.pages ≤ 64
  pub kept-min : 1 ≤ g.kept
  pub kept-max : g.kept ≤ 32
  pub bits-test : is_power 6 16 g.bits ≡ true
  pub bits-min : 64 ≤ g.bits
  pub bits-max : g.bits ≤ 65536
  pub bits_is : g.bits ≡ 8 * filter_size g
  pub filter-max : filter_size g ≤ 8192
  pub hashes-min : 1 ≤ g.hashes
  pub hashes-max : g.hashes ≤ 8
  pub list-min : 1 ≤ g.list
  pub list-max : g.list ≤ 1024

range : (low high n : ℕ) → between low high n ≡ true → (low ≤ n) × (n ≤ high)
range low high n h = let w = both_true (leb low n) (leb n high) h in (leb-true low n w.0, leb-true n high w.1)

-- 2 ^ k between two powers of two
power-range : (low high k : ℕ) → low ≤ k → k ≤ high → (2 ^ low ≤ 2 ^ k) × (2 ^ k ≤ 2 ^ high)
power-range low high k l h = (pow-le-pow_right (omega arith) l, pow-le-pow_right (omega arith) h)

pub sizes : (g : Geometry) → allowed g ≡ true → Sizes g
unfolding allowed
sizes g ok =
    let t1 = leb g.parts 8 in
    let t2 = t1 && is_power 6 12 g.page in
    let t3 = t2 && is_power 0 6 g.pages in
    let t4 = t3 && between 1 32 g.kept in
    let t5 = t4 && is_power 6 16 g.bits in
    let t6 = t5 && between 1 8 g.hashes in
    let w7 = both_true t6 (between 1 1024 g.list) ok in
    let w6 = both_true t5 (between 1 8 g.hashes) w7.0 in
    let w5 = both_true t4 (is_power 6 16 g.bits) w6.0 in
    let w4 = both_true t3 (between 1 32 g.kept) w5.0 in
    let w3 = both_true t2 (is_power 0 6 g.pages) w4.0 in
    let w2 = both_true t1 (is_power 6 12 g.page) w3.0 in
    let parts = leb-true g.parts 8 w2.0 in
    let page = power 6 12 g.page w2.1 in
    let pages = power 0 6 g.pages w3.1 in
    let kept = range 1 32 g.kept w4.1 in
    let bits = power 6 16 g.bits w5.1 in
    let hashes = range 1 8 g.hashes w6.1 in
    let list = range 1 1024 g.list w7.1 in
    let bits_range = power-range 6 16 bits.0 bits.1 bits.2 in
    let pages-range = power-range 0 6 pages.0 pages.1 pages.2 in
    let page-range = power-range 6 12 page.0 page.1 page.2 in
    let parts-range = power-range 0 8 g.parts (omega arith) parts in
    let page-multiple = power-multiple 6 page.0 (omega arith) in
    let bits-multiple = power-multiple 3 bits.0 (omega arith) in
    record {
      parts-max = parts;
      partitions-min = parts-range.0;
      partitions-max = parts-range.1;
      page-test = w2.1;
      page-min = omega arith;
      page-max = omega arith;
      page-is = omega arith;
      page-blocks = omega arith;
      capacity-min = omega arith;
      pages-test = w3.1;
      pages-min = omega arith;
      pages-max = omega arith;
      kept-min = kept.0;
      kept-max = kept.1;
      bits-test = w5.1;
      bits-min = omega arith;
      bits-max = omega arith;
      bits_is = omega arith;
      filter-max = omega arith;
      hashes-min = hashes.0;
      hashes-max = hashes.1;
      list-min = list.0;
      list-max = list.1;
    }

-- numbers that break a bound are not allowed
pub disallowed : (g : Geometry) → (Sizes g → ⊥) → false ≡ allowed g
disallowed g h = sym (false-if (allowed g) (λ e. h (sizes g e)))

-- with the others in their bounds, the bits of a filter decide
pub allowed-by-bits : (g : Geometry) → g.parts ≤ 8 → is_power 6 12 g.page ≡ true → is_power 0 6 g.pages ≡ true → 1 ≤ g.kept → g.kept ≤ 32 → 1 ≤ g.hashes → g.hashes ≤ 8 → 1 ≤ g.list → g.list ≤ 1024 → allowed g ≡ is_power 6 16 g.bits
unfolding allowed
allowed-by-bits g a b c d d' e e' f f' = simp (le-leb, b, c, and-true)

module _ (g : Geometry) where
  -- ---- in a partition: the list, the filters, the buffer pages
  pub filter-from : (j : ℕ) → 16 + 16 * g.list ≤ filter_at g j
  unfolding filter_at
  filter-from j = omega arith

  pub filter-fits : (j : ℕ) → j < g.kept → filter_at g j + filter_size g ≤ buffer_at g 0
  unfolding filter_at buffer_at
  filter-fits j l = omega (arith, block-le j g.kept (filter_size g) l)

  pub filters-apart : (i j : ℕ) → (i ≡ j → ⊥) → Apart (filter_at g i) (filter_size g) (filter_at g j) (filter_size g)
  unfolding filter_at
  filters-apart i j h = blocks-apart (16 + 16 * g.list) i j (filter_size g) h

  pub buffer-from : (q : ℕ) → buffer_at g 0 ≤ buffer_at g q
  unfolding buffer_at
  buffer-from q = omega (arith, zero-mul g.page)

  pub buffer-behind-list : (q : ℕ) → 16 + 16 * g.list ≤ buffer_at g q
  unfolding buffer_at
  buffer-behind-list q = omega (arith, filter-from g.kept)

  pub buffer-fits : (q : ℕ) → q < g.pages → buffer_at g q + g.page ≤ stride g
  unfolding buffer_at stride
  buffer-fits q l = omega (arith, block-le q g.pages g.page l)

  pub buffer-end : buffer_at g 0 ≤ stride g
  unfolding stride
  buffer-end = buffer-from g.pages

  pub buffers-apart : (q r : ℕ) → (q ≡ r → ⊥) → Apart (buffer_at g q) g.page (buffer_at g r) g.page
  unfolding buffer_at
  buffers-apart q r h = blocks-apart (filter_at g g.kept) q r g.page h

  pub filter-before-buffer : (j q : ℕ) → j < g.kept → filter_at g j + filter_size g ≤ buffer_at g q
  filter-before-buffer j q l = omega (arith, filter-fits j l, buffer-from q)

  -- ---- in memory: the partitions
  pub partition-from : (t : ℕ) → 32 ≤ partition_at g t
  unfolding partition_at
  partition-from t = omega arith

  pub partition-fits : (t : ℕ) → t < partitions g → partition_at g t + stride g ≤ memory_need g
  unfolding partition_at memory_need
  partition-fits t l = omega (arith, block-le t (partitions g) (stride g) l)

  pub partitions-apart : (t u : ℕ) → (t ≡ u → ⊥) → Apart (partition_at g t) (stride g) (partition_at g u) (stride g)
  unfolding partition_at
  partitions-apart t u h = blocks-apart 32 t u (stride g) h

  -- ---- in flash: the pages of the slots
  pub slot-page-fits : (t j q : ℕ) → t < partitions g → j < g.kept → q < g.pages → slot_page_at g t j q + g.page ≤ flash_need g
  unfolding slot_page_at flash_need
  slot-page-fits t j q lt lj lq = block-le _ _ g.page (digits_lt (digits_lt lt lj) lq)

  pub slot-pages-apart : (t j q t' j' q' : ℕ) → j < g.kept → j' < g.kept → q < g.pages → q' < g.pages → (t ≡ t' → j ≡ j' → q ≡ q' → ⊥) → Apart (slot_page_at g t j q) g.page (slot_page_at g t' j' q') g.page
  unfolding slot_page_at
  slot-pages-apart t j q t' j' q' lj lj' lq lq' h =
      simp zero-add at
      (blocks-apart 0 ((t * g.kept + j) * g.pages + q) ((t' * g.kept + j') * g.pages + q') g.page
      (λ e. let w = digits-one g.pages _ q _ q' lq lq' e in let v = digits-one g.kept t j t' j' lj lj' w.0 in h v.0 v.1 w.1))

-- ---- all allowed sizes together, for sums that must not wrap
module _ (g : Geometry) (ok : allowed g ≡ true) where
  pub filter-at-max : (j : ℕ) → j ≤ g.kept → filter_at g j ≤ 278544
  unfolding filter_at
  filter-at-max j l = let z = sizes g ok in omega (arith, mul-le-mul l z.filter-max, mul-le-mul_right 8192 z.kept-max)

  pub buffer-at-max : (q : ℕ) → q ≤ g.pages → buffer_at g q ≤ 540688
  unfolding buffer_at
  buffer-at-max q l = let z = sizes g ok in omega (arith, filter-at-max g.kept (omega arith), mul-le-mul l z.page-max, mul-le-mul_right 4096 z.pages-max)

  pub stride-max : stride g ≤ 540688
  unfolding stride
  stride-max = buffer-at-max g.pages (omega arith)

  pub partition-at-max : (t : ℕ) → t ≤ partitions g → partition_at g t ≤ 138416160
  unfolding partition_at
  partition-at-max t l = let z = sizes g ok in omega (arith, mul-le-mul l stride-max, mul-le-mul_right 540688 z.partitions-max)

  pub flash-max : flash_need g ≤ 2147483648
  unfolding flash_need
  flash-max = let z = sizes g ok in mul-le-mul (mul-le-mul (mul-le-mul z.partitions-max z.kept-max) z.pages-max) z.page-max

  -- a buffer and K batches
  sources-max : g.kept + 1 ≤ 33
  sources-max = omega (arith, (sizes g ok).kept-max)

  pub capacity-max : capacity g ≤ 255
  capacity-max = let z = sizes g ok in omega (arith, z.page-is, z.page-max)

  pub most-max : most_entries g ≤ 538560
  unfolding most_entries
  most-max = mul-le-mul (mul-le-mul sources-max (sizes g ok).pages-max) capacity-max

  pub lost-max : first_lost g ≤ 8416
  unfolding first_lost
  lost-max = omega (arith, mul-le-mul sources-max capacity-max)

  -- ---- a key's partition and page, a batch's slot
  pub partition-of-lt : (k : ℕ) → k < 2 ^ 64 → partition_of g k < partitions g
  unfolding partition_of
  partition-of-lt k l = let z = sizes g ok in let e : g.parts + (64 - g.parts) ≡ 64 = omega arith in shr_lt g.parts (64 - g.parts) (rw e l)

  pub page-of-lt : (k : ℕ) → page_of g k < g.pages
  unfolding page_of
  page-of-lt k = mod-lt _ (sizes g ok).pages-min

  -- bit i of a mixed key, of the h that it has
  pub bit_below : (x i : ℕ) → i < g.hashes → bit_of g x i < g.bits
  unfolding bit_of
  bit_below x i l = mod-lt _ (omega (arith, (sizes g ok).bits-min))

  pub slot_lt : (n : ℕ) → slot g n < g.kept
  slot_lt n = mod-lt (n - 1) (sizes g ok).kept-min

  pub slot-is-lt : {j : ℕ} (n : ℕ) → j ≡ slot g n → j < g.kept
  slot-is-lt n e = rw e (slot_lt n)

-- where a buffer has one page, every key has it
pub page-of-one : (g : Geometry) → g.pages ≡ 1 → (k : ℕ) → page_of g k ≡ 0
unfolding page_of
page-of-one g one k = rw (one, mod-one)
