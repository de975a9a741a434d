-- Where a partition lies in memory, and what a part `memory[a..a + n]` is that begins and ends as it does: one fact for all functions that lend it.
use Prim.Native.Nat.{ℕ, ◌+◌, ◌-◌, ◌^◌, ◌≤◌, ◌<◌}
use mathlib.Core.Bool.{true}
use mathlib.Core.List.{List}
use mathlib.Core.Path.{◌≡◌, sym, ◌∙◌, ap}
use native.Mathlib.Nat.{add-sub_cancel_left}
use native.Mathlib.Omega.{arith}
use lib.ListN.{length, get_or}
use borrow.Rule.Slice.PartMut.{put_mid}
use Rattle.model.specs.declared.Geometry.{Geometry}
use Rattle.model.specs.Bytes.{word, mid, within}
use Rattle.model.specs.Geometry.{allowed, partitions, stride, partition_at, memory_need}
use Rattle.model.specs.Keys.{partition_of}
use Rattle.model.specs.Partition.{head_of, partition}
use Rattle.model.proofs.Parts.{lent, length-mid}
use Rattle.model.proofs.Words.{word-mid, word_lt}
use Rattle.model.proofs.Sizes.{buffer-behind-list, buffer-end, partition-fits, partition-of-lt}
use Rattle.model.proofs.Heads.{HeadWords}
use Rattle.partition.specs.Ready.{Whole}

-- the part is partition t, and a change of it that keeps its length is one of memory there
pub record Lent (g : Geometry) (t : ℕ) (m : List ℕ) (a n : ℕ) : Type 0 where
  pub inside : a + n ≤ length m
  pub own : mid a (a + n - a) m ≡ partition g t m
  pub whole : Whole g (mid a (a + n - a) m)
  pub back : (f : List ℕ → List ℕ) → ((p : List ℕ) → length (f p) ≡ length p) → (ys : List ℕ) → ys ≡ f (mid a (a + n - a) m) → put_mid a (a + n - a) m ys ≡ within (partition_at g t) (stride g) f m

module _ (g : Geometry) (m : List ℕ) (fine : allowed g ≡ true) (long : memory_need g ≤ length m) where
  module _ (t : ℕ) (below : t < partitions g) where
    pub partition-inside : partition_at g t + stride g ≤ length m
    partition-inside = omega (arith, partition-fits g t below)

    pub partition-whole : Whole g (partition g t m)
    partition-whole = record { fine = fine; long = length-mid _ _ m partition-inside }

    pub lends : (a n : ℕ) → a ≡ partition_at g t → n ≡ stride g → Lent g t m a n
    lends a n ea en =
        rw (ea, en)
        (record {
          inside = partition-inside;
          own = rw add-sub_cancel_left;
          whole = rw add-sub_cancel_left partition-whole;
          back = λ f keeps ys e. lent (partition_at g t) (stride g) f m ys partition-inside keeps e;
        })

  -- the same for the partition of a key
  pub key-whole : (k : ℕ) → k < 2 ^ 64 → Whole g (partition g (partition_of g k) m)
  key-whole k l = partition-whole (partition_of g k) (partition-of-lt g fine k l)

  pub lends-key : (k : ℕ) → k < 2 ^ 64 → (a n : ℕ) → a ≡ partition_at g (partition_of g k) → n ≡ stride g → Lent g (partition_of g k) m a n
  lends-key k l = lends (partition_of g k) (partition-of-lt g fine k l)

-- what was asked of a part is so of the partition that it is
pub asked_of : {A : Type 0} (ask : List ℕ → A) {p p' : List ℕ} {told : A} → told ≡ ask p → p ≡ p' → ask p' ≡ told
asked_of ask e same = sym (e ∙ ap ask same)

-- a head is read from bytes
pub head-words : (p : List ℕ) → ((i : ℕ) → get_or p i 0 < 256) → HeadWords (head_of p)
head-words p bytes = record { flushes = word_lt 4 p 0 bytes; listed = word_lt 4 p 4 bytes; total = word_lt 4 p 8 bytes; live = word_lt 4 p 12 bytes }

-- and a partition's from bytes of memory
pub partition-words : (g : Geometry) (t : ℕ) (m : List ℕ) → ((i : ℕ) → get_or m i 0 < 256) → HeadWords (head_of (partition g t m))
partition-words g t m bytes = record { flushes = number 0 (omega arith); listed = number 4 (omega arith); total = number 8 (omega arith); live = number 12 (omega arith) }
  where
    number : (at : ℕ) → at + 4 ≤ 16 → word 4 (partition g t m) at < 2 ^ 32
    number at l = rw (word-mid 4 m (partition_at g t) (stride g) at (omega (arith, buffer-behind-list g 0, buffer-end g))) (word_lt 4 m (partition_at g t + at) bytes)
