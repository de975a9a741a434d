-- Laws of the chains of checks: which refusal each condition gives, and what a call may rely on once none of its checks refused it.
use Prim.Native.Nat.{ℕ, zero, suc, ◌+◌, ◌≤◌, ◌<◌}
use mathlib.Core.Bool.{Bool, true, false, not, ◌&&◌, ◌||◌}
use mathlib.Core.Path.{◌≡◌, refl}
use mathlib.Core.List.{List}
use Rattle.std.specs.Prelude.{Option, None, Some}
use native.Mathlib.Omega.{arith}
use lib.Dec.{eqb, ltb}
use lib.ListN.{length}
use borrow.Author.Tests.{ltb-true, ltb-false, lt-ltb, le-ltb, eq-eqb, ne_eqb, not-false}
use Rattle.model.specs.declared.Geometry.{Geometry}
use Rattle.model.specs.Search.{first_from, is_some, any_from}
use Rattle.model.specs.Geometry.{allowed, partitions, capacity, memory_need, flash_need}
use Rattle.model.specs.Keys.{page_of}
use Rattle.model.specs.Page.{count_of}
use Rattle.model.specs.Partition.{head_of, flushes_of, live_of, buffer_of, is_live, oldest}
use Rattle.model.specs.Batch.{failed_page, failed_head, leaving}
use Rattle.model.specs.Answers.{Areas, Refusal, unread}
use Rattle.model.specs.Refusals.{refuse_if, refuse_head, head_overfull, page_overfull, key_overfull, some_page_overfull, total_out, last_flush}
use Rattle.model.specs.Format.{format_checks}
use Rattle.model.specs.Flush.{in_use, due_checks, flush_checks, page_checks}
use Rattle.model.specs.Drop.{oldest_entries, drop_checks}
use Rattle.model.specs.View.{view_checks}
use Rattle.model.specs.Count.{count_checks}
use Rattle.model.specs.PartitionText.{partition_text, some_batch_fails, text_checks}
use Rattle.model.proofs.Tests.{neither}
use Rattle.model.proofs.Searching.{first-none}

-- a refusal that was not given: its condition does not hold, nor do those after it
pub refuse-none : (b : Bool) (n : ℕ) (later : Option Refusal) → refuse_if b n later ≡ None → (b ≡ false) × (later ≡ None)
refuse-none true n later h = let z : ◌≡◌ {A = ℕ} 0 1 = cc in absurd (omega arith)
refuse-none false n later h = (refl, h)

heads-none : (o : Option ℕ) (later : Option Refusal) → refuse_head o later ≡ None → (o ≡ None) × (later ≡ None)
heads-none (Some q) later h = let z : ◌≡◌ {A = ℕ} 0 1 = cc in absurd (omega arith)
heads-none None later h = (refl, h)

-- a test that none passes
any_none : (n i : ℕ) (test : ℕ → Bool) → ((j : ℕ) → j < i + n → test j ≡ false) → any_from n i test ≡ false
unfolding first_from
any_none zero i test h = refl
any_none (suc n) i test h = rw (h i (omega arith)) (any_none n (i + 1) test (λ j l. h j (omega arith)))

pub none_found : (o : Option ℕ) → is_some o ≡ false → o ≡ None
none_found None e = refl
none_found (Some x) e = let z : ◌≡◌ {A = ℕ} 0 1 = cc in absurd (omega arith)

-- ---- 12, of a buffer page, of the pages, and for a call with a key
module _ (g : Geometry) (p : List ℕ) where
  pub page-fits : (q : ℕ) → page_overfull g p q ≡ false → count_of (buffer_of g p q) ≤ capacity g
  unfolding page_overfull
  page-fits q e = ltb-false _ _ e

  pub fits-page : (q : ℕ) → count_of (buffer_of g p q) ≤ capacity g → page_overfull g p q ≡ false
  unfolding page_overfull
  fits-page q l = le-ltb _ _ l

  pub pages-fit : some_page_overfull g p ≡ false → (q : ℕ) → q < g.pages → count_of (buffer_of g p q) ≤ capacity g
  unfolding some_page_overfull
  pages-fit e q l = page-fits q (first-none (page_overfull g p) g.pages 0 (none_found _ e) q (omega arith) (omega arith))

  pub fits-pages : ((q : ℕ) → q < g.pages → count_of (buffer_of g p q) ≤ capacity g) → some_page_overfull g p ≡ false
  unfolding some_page_overfull
  fits-pages h = any_none g.pages 0 (page_overfull g p) (λ q l. fits-page q (h q (omega arith)))

  module _ (k : ℕ) where
    pub key_fits : key_overfull g k p ≡ false → (head_overfull g (head_of p) ≡ false) × (count_of (buffer_of g p (page_of g k)) ≤ capacity g)
    unfolding key_overfull
    key_fits e = let w = neither (head_overfull g (head_of p)) (page_overfull g p (page_of g k)) e in (w.0, page-fits (page_of g k) w.1)

    pub fits-key : head_overfull g (head_of p) ≡ false → count_of (buffer_of g p (page_of g k)) ≤ capacity g → key_overfull g k p ≡ false
    unfolding key_overfull
    fits-key e l = rw (e, fits-page (page_of g k) l)

-- ---- format: 1, 2, 3
module _ (g : Geometry) (a : Areas) where
  pub format-1 : allowed g ≡ false → format_checks g a ≡ Some (unread 1)
  unfolding format_checks
  format-1 e = rw e

  module _ (fine : allowed g ≡ true) where
    pub format-2 : length a.memory < memory_need g → format_checks g a ≡ Some (unread 2)
    unfolding format_checks
    format-2 l = rw (fine, lt-ltb _ _ l)

    pub format-3 : memory_need g ≤ length a.memory → length a.flash < flash_need g → format_checks g a ≡ Some (unread 3)
    unfolding format_checks
    format-3 m l = rw (fine, le-ltb _ _ m, lt-ltb _ _ l)

    pub format-passes : memory_need g ≤ length a.memory → flash_need g ≤ length a.flash → format_checks g a ≡ None
    unfolding format_checks
    format-passes m l = rw (fine, le-ltb _ _ m, le-ltb _ _ l)

  pub format-accepted : format_checks g a ≡ None → (allowed g ≡ true) × (memory_need g ≤ length a.memory) × (flash_need g ≤ length a.flash)
  unfolding format_checks
  format-accepted e =
      let one = refuse-none (not (allowed g)) 1 _ e in
      let two = refuse-none (ltb (length a.memory) (memory_need g)) 2 _ one.1 in
      let three = refuse-none (ltb (length a.flash) (flash_need g)) 3 None two.1 in
      (not-false (allowed g) one.0, ltb-false _ _ two.0, ltb-false _ _ three.0)

-- ---- a flush that is due: 16, 13, 12
module _ (g : Geometry) (t more : ℕ) (p f : List ℕ) where
  pub due-16 : flushes_of p ≡ last_flush → due_checks g t more p f ≡ Some (unread 16)
  unfolding due_checks
  due-16 e = rw (eq-eqb (flushes_of p) last_flush e)

  module _ (number : flushes_of p ≡ last_flush → ⊥) where
    -- with a flush number left
    pub due-read : due_checks g t more p f ≡ refuse_head (failed_head g t p f) (refuse_if (total_out g more (leaving g t p f) (head_of p)) 12 None)
    unfolding due_checks
    due-read = rw (ne_eqb (flushes_of p) last_flush number)

  pub due-last : failed_head g t p f ≡ None → total_out g more (leaving g t p f) (head_of p) ≡ false → due_checks g t more p f ≡ refuse_if (eqb (flushes_of p) last_flush) 16 None
  unfolding due_checks
  due-last heads e = rw (heads, e)

  pub due-accepted : due_checks g t more p f ≡ None
      → (eqb (flushes_of p) last_flush ≡ false) × (failed_head g t p f ≡ None) × (total_out g more (leaving g t p f) (head_of p) ≡ false)
  unfolding due_checks
  due-accepted e =
      let one = refuse-none (eqb (flushes_of p) last_flush) 16 _ e in
      let two = heads-none (failed_head g t p f) _ one.1 in
      (one.0, two.0, (refuse-none (total_out g more (leaving g t p f) (head_of p)) 12 None two.1).0)

-- ---- flush: 4, 12, 15, and what a flush checks that is due
module _ (g : Geometry) (t : ℕ) (p f : List ℕ) where
  pub flush-4 : partitions g ≤ t → flush_checks g t p f ≡ Some (unread 4)
  unfolding flush_checks
  flush-4 l = rw (le-ltb t (partitions g) l)

  module _ (below : t < partitions g) where
    pub flush-12 : head_overfull g (head_of p) ≡ true → flush_checks g t p f ≡ Some (unread 12)
    unfolding flush_checks
    flush-12 e = rw (lt-ltb t (partitions g) below, e)

    module _ (head : head_overfull g (head_of p) ≡ false) where
      pub flush-12-page : some_page_overfull g p ≡ true → flush_checks g t p f ≡ Some (unread 12)
      unfolding flush_checks
      flush-12-page e = rw (lt-ltb t (partitions g) below, head, e)

      -- with what fits, only an entry can be wanting, or what a flush needs that is due
      pub flush-last : some_page_overfull g p ≡ false → flush_checks g t p f ≡ refuse_if (not (in_use g p)) 15 (due_checks g t 0 p f)
      unfolding flush_checks
      flush-last e = rw (lt-ltb t (partitions g) below, head, e)

  pub flush-accepted : flush_checks g t p f ≡ None
      → (t < partitions g) × (head_overfull g (head_of p) ≡ false) × (some_page_overfull g p ≡ false) × (in_use g p ≡ true) × (due_checks g t 0 p f ≡ None)
  unfolding flush_checks
  flush-accepted e =
      let one = refuse-none (not (ltb t (partitions g))) 4 _ e in
      let two = refuse-none (head_overfull g (head_of p)) 12 _ one.1 in
      let three = refuse-none (some_page_overfull g p) 12 _ two.1 in
      let four = refuse-none (not (in_use g p)) 15 _ three.1 in
      (ltb-true t (partitions g) (not-false _ one.0), two.0, three.0, not-false _ four.0, four.1)

-- ---- drop: 4, 12, 23, 13, 12
module _ (g : Geometry) (t : ℕ) (p f : List ℕ) where
  pub drop-4 : partitions g ≤ t → drop_checks g t p f ≡ Some (unread 4)
  unfolding drop_checks
  drop-4 l = rw (le-ltb t (partitions g) l)

  module _ (below : t < partitions g) where
    pub drop-12 : head_overfull g (head_of p) ≡ true → drop_checks g t p f ≡ Some (unread 12)
    unfolding drop_checks
    drop-12 e = rw (lt-ltb t (partitions g) below, e)

    module _ (head : head_overfull g (head_of p) ≡ false) where
      pub drop-23 : live_of p ≡ 0 → drop_checks g t p f ≡ Some (unread 23)
      unfolding drop_checks
      drop-23 e = rw (lt-ltb t (partitions g) below, head, eq-eqb (live_of p) 0 e)

      -- with a live batch
      pub drop-read : (live_of p ≡ 0 → ⊥) → drop_checks g t p f ≡ refuse_head (failed_page g t f (oldest (head_of p))) (refuse_if (total_out g 0 (oldest_entries g t p f) (head_of p)) 12 None)
      unfolding drop_checks
      drop-read e = rw (lt-ltb t (partitions g) below, head, ne_eqb (live_of p) 0 e)

  pub drop-accepted : drop_checks g t p f ≡ None
      → (t < partitions g) × (head_overfull g (head_of p) ≡ false) × (eqb (live_of p) 0 ≡ false) × (total_out g 0 (oldest_entries g t p f) (head_of p) ≡ false)
  unfolding drop_checks
  drop-accepted e =
      let one = refuse-none (not (ltb t (partitions g))) 4 _ e in
      let two = refuse-none (head_overfull g (head_of p)) 12 _ one.1 in
      let three = refuse-none (eqb (live_of p) 0) 23 _ two.1 in
      let four = heads-none (failed_page g t f (oldest (head_of p))) _ three.1 in
      (ltb-true t (partitions g) (not-false _ one.0), two.0, three.0, (refuse-none (total_out g 0 (oldest_entries g t p f) (head_of p)) 12 None four.1).0)

-- ---- one page of a flush: 4, 16
module _ (g : Geometry) (t q : ℕ) (p : List ℕ) where
  pub page-accepted : page_checks g t q p ≡ None → (t < partitions g) × (q < g.pages) × (eqb (flushes_of p) last_flush ≡ false)
  unfolding page_checks
  page-accepted e =
      let one = refuse-none (not (ltb t (partitions g)) || not (ltb q g.pages)) 4 _ e in
      let both = neither (not (ltb t (partitions g))) (not (ltb q g.pages)) one.0 in
      (ltb-true t (partitions g) (not-false _ both.0), ltb-true q g.pages (not-false _ both.1), (refuse-none (eqb (flushes_of p) last_flush) 16 None one.1).0)

  pub page-passes : t < partitions g → q < g.pages → eqb (flushes_of p) last_flush ≡ false → page_checks g t q p ≡ None
  unfolding page_checks
  page-passes below page number = rw (lt-ltb t (partitions g) below, lt-ltb q g.pages page, number)

-- ---- count: 4, 12
module _ (g : Geometry) (t : ℕ) (p : List ℕ) where
  pub count-4 : partitions g ≤ t → count_checks g t p ≡ Some (unread 4)
  unfolding count_checks
  count-4 l = rw (le-ltb t (partitions g) l)

  module _ (below : t < partitions g) where
    pub count-12 : head_overfull g (head_of p) ≡ true → count_checks g t p ≡ Some (unread 12)
    unfolding count_checks
    count-12 e = rw (lt-ltb t (partitions g) below, e)

    pub count-passes : head_overfull g (head_of p) ≡ false → count_checks g t p ≡ None
    unfolding count_checks
    count-passes e = rw (lt-ltb t (partitions g) below, e)

-- ---- text
module _ (g : Geometry) (t room : ℕ) (p f : List ℕ) where
  pub text-4 : partitions g ≤ t → text_checks g t room p f ≡ Some (unread 4)
  unfolding text_checks
  text-4 l = rw (le-ltb t (partitions g) l)

  module _ (below : t < partitions g) where
    pub text-12 : head_overfull g (head_of p) ≡ true → text_checks g t room p f ≡ Some (unread 12)
    unfolding text_checks
    text-12 e = rw (lt-ltb t (partitions g) below, e)

    module _ (head : head_overfull g (head_of p) ≡ false) where
      pub text-12-page : some_page_overfull g p ≡ true → text_checks g t room p f ≡ Some (unread 12)
      unfolding text_checks
      text-12-page e = rw (lt-ltb t (partitions g) below, head, e)

      module _ (pages : some_page_overfull g p ≡ false) where
        pub text-13 : some_batch_fails g t p f ≡ true → text_checks g t room p f ≡ Some (unread 13)
        unfolding text_checks
        text-13 e = rw (lt-ltb t (partitions g) below, head, pages, e)

        -- 22, or none
        pub text-room : some_batch_fails g t p f ≡ false → text_checks g t room p f ≡ refuse_if (ltb room (length (partition_text g t p f))) 22 None
        unfolding text_checks
        text-room e = rw (lt-ltb t (partitions g) below, head, pages, e)

  pub text-accepted : text_checks g t room p f ≡ None
      → (t < partitions g) × (head_overfull g (head_of p) ≡ false) × (some_page_overfull g p ≡ false) × (some_batch_fails g t p f ≡ false)
  unfolding text_checks
  text-accepted e =
      let one = refuse-none (not (ltb t (partitions g))) 4 _ e in
      let two = refuse-none (head_overfull g (head_of p)) 12 _ one.1 in
      let three = refuse-none (some_page_overfull g p) 12 _ two.1 in
      let four = refuse-none (some_batch_fails g t p f) 13 _ three.1 in
      (ltb-true t (partitions g) (not-false _ one.0), two.0, three.0, four.0)

-- ---- view: 4, 12, 17
module _ (g : Geometry) (t q n : ℕ) (p : List ℕ) where
  pub view-4 : not (ltb t (partitions g)) || not (ltb q g.pages) ≡ true → view_checks g t q n p ≡ Some (unread 4)
  unfolding view_checks
  view-4 e = rw e

  module _ (below : t < partitions g) (page : q < g.pages) where
    pub view-12 : head_overfull g (head_of p) ≡ true → view_checks g t q n p ≡ Some (unread 12)
    unfolding view_checks
    view-12 e = rw (lt-ltb t (partitions g) below, lt-ltb q g.pages page, e)

    module _ (head : head_overfull g (head_of p) ≡ false) where
      pub view-12-page : n ≡ 0 → page_overfull g p q ≡ true → view_checks g t q n p ≡ Some (unread 12)
      unfolding view_checks
      view-12-page z e = rw (lt-ltb t (partitions g) below, lt-ltb q g.pages page, head, eq-eqb n 0 z, e)

      -- with what fits, only a live batch can be wanting
      pub view-last : eqb n 0 && page_overfull g p q ≡ false → view_checks g t q n p ≡ refuse_if (not (eqb n 0) && not (is_live (head_of p) n)) 17 None
      unfolding view_checks
      view-last e = rw (lt-ltb t (partitions g) below, lt-ltb q g.pages page, head, e)
