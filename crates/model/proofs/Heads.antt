-- A partition's head: what it gives once it passes its test, when it is read back as it was written, and its live number.
use Prim.Native.Nat.{ℕ, ◌+◌, ◌-◌, ◌^◌, ◌≤◌, ◌<◌, min}
use mathlib.Core.Bool.{Bool, true, false, ◌||◌}
use mathlib.Core.Path.{◌≡◌, refl}
use mathlib.Core.List.{List}
use native.Mathlib.Omega.{arith}
use lib.Dec.{ltb, leb}
use lib.ListN.{length}
use borrow.Author.Tests.{ltb-true, ltb-false, leb-true, lt-ltb, le-ltb, le-leb}
use Rattle.model.specs.declared.Geometry.{Geometry}
use Rattle.model.specs.Bytes.{write}
use Rattle.model.specs.Geometry.{most_entries}
use Rattle.model.specs.Partition.{Head, head_of, flushed_head, lowered_head, listed_head, unlisted_head, totalled_head, with_head, flushes_of, listed_of, total_of, live_of, list_of, is_live}
use Rattle.model.specs.Refusals.{head_overfull, total_out}
use Rattle.model.specs.DeleteList.{unexpired}
use Rattle.model.specs.Flush.{head_after}
use Rattle.model.specs.Drop.{head_dropped}
use Rattle.model.proofs.Words.{length-write, word_write, word-write-out}
use Rattle.model.proofs.ListEntries.{unexpired-le}
use Rattle.model.proofs.Tests.{numbers, either, both_true, neither}

-- above the lesser of two numbers, after two other tests
above-lesser : (x y : Bool) (a b n : ℕ) → x || y || ltb (min a b) n ≡ x || y || ltb a n || ltb b n
above-lesser true y a b n = refl
above-lesser false true a b n = refl
above-lesser false false a b n = either (ltb a n)
    (λ e. let l : min a b < n = omega numbers in rw (e, lt-ltb _ _ l))
    (λ e. either (ltb b n)
    (λ f. let l : min a b < n = omega numbers in rw (e, f, lt-ltb _ _ l))
    (λ f. let l : n ≤ min a b = omega numbers in rw (e, f, le-ltb _ _ l)))

module _ (g : Geometry) (h : Head) where
  -- ---- 12: by tests of one number each
  pub overfull-tests : head_overfull g h ≡ ltb g.list h.listed || ltb (most_entries g) h.total || ltb g.kept h.live || ltb h.flushes h.live
  unfolding head_overfull
  overfull-tests = above-lesser (ltb g.list h.listed) (ltb (most_entries g) h.total) g.kept h.flushes h.live

  -- ---- what a head gives that is not overfull
  pub record HeadFits : Type 0 where
    pub list : h.listed ≤ g.list
    pub total : h.total ≤ most_entries g
    pub kept : h.live ≤ g.kept
    pub flushed : h.live ≤ h.flushes

  pub head-fits : head_overfull g h ≡ false → HeadFits
  unfolding head_overfull
  head-fits e =
      let two = neither (ltb g.list h.listed || ltb (most_entries g) h.total) (ltb (min g.kept h.flushes) h.live) e in
      let one = neither (ltb g.list h.listed) (ltb (most_entries g) h.total) two.0 in
      let least : h.live ≤ min g.kept h.flushes = ltb-false _ _ two.1 in
      record { list = ltb-false _ _ one.0; total = ltb-false _ _ one.1; kept = omega arith; flushed = omega arith }

  pub fits_head : HeadFits → head_overfull g h ≡ false
  unfolding head_overfull
  fits_head f =
      let least : h.live ≤ min g.kept h.flushes = omega (arith, f.kept, f.flushed) in
      rw (le-ltb _ _ f.list, le-ltb _ _ f.total, le-ltb _ _ least)

  -- ---- 12, last: what a total that stays in its bounds gives, and what it takes
  module _ (more less : ℕ) where
    pub total-in : total_out g more less h ≡ false → (less ≤ h.total + more) × (h.total + more - less ≤ most_entries g)
    unfolding total_out
    total-in e = let both = neither (ltb (h.total + more) less) (ltb (most_entries g) (h.total + more - less)) e in (ltb-false _ _ both.0, ltb-false _ _ both.1)

    pub in-total : less ≤ h.total + more → h.total + more - less ≤ most_entries g → total_out g more less h ≡ false
    unfolding total_out
    in-total low high = rw (le-ltb _ _ low, le-ltb _ _ high)

    pub total-below : h.total + more < less → total_out g more less h ≡ true
    unfolding total_out
    total-below l = rw (lt-ltb _ _ l)

    pub total-above : less ≤ h.total + more → most_entries g < h.total + more - less → total_out g more less h ≡ true
    unfolding total_out
    total-above low l = rw (le-ltb _ _ low, lt-ltb _ _ l)

-- ---- a live batch, by the definition and by its bounds
module _ (h : Head) (n : ℕ) where
  pub live-bounds : is_live h n ≡ true → (1 ≤ n) × (n ≤ h.flushes) × (h.flushes < n + h.live)
  unfolding is_live
  live-bounds e =
      let both = both_true (ltb (h.flushes - h.live) n) (leb n h.flushes) e in
      let above : h.flushes - h.live < n = ltb-true _ _ both.0 in
      (omega (arith, above), leb-true _ _ both.1, omega (arith, above))

  pub bounds-live : 1 ≤ n → n ≤ h.flushes → h.flushes < n + h.live → is_live h n ≡ true
  unfolding is_live
  bounds-live first old near = rw (lt-ltb (h.flushes - h.live) n (omega arith), le-leb n h.flushes old)

-- ---- a head whose numbers have room in their bytes
pub record HeadWords (h : Head) : Type 0 where
  pub flushes : h.flushes < 2 ^ 32
  pub listed : h.listed < 2 ^ 32
  pub total : h.total < 2 ^ 32
  pub live : h.live < 2 ^ 32

-- it is read back
pub head-back : (h : Head) (p : List ℕ) → 16 ≤ length p → HeadWords h → head_of (with_head h p) ≡ h
unfolding with_head
head-back h p room w =
    let one : List ℕ = write 4 h.flushes 0 p in
    let two : List ℕ = write 4 h.listed 4 one in
    let three : List ℕ = write 4 h.total 8 two in
    rw (
      word-write-out 4 4 h.live 12 three 0 (omega arith),
      word-write-out 4 4 h.total 8 two 0 (omega arith),
      word-write-out 4 4 h.listed 4 one 0 (omega arith),
      word_write 4 h.flushes 0 p (omega arith) w.flushes,
      word-write-out 4 4 h.live 12 three 4 (omega arith),
      word-write-out 4 4 h.total 8 two 4 (omega arith),
      word_write 4 h.listed 4 one (simp length-write (omega arith)) w.listed,
      word-write-out 4 4 h.live 12 three 8 (omega arith),
      word_write 4 h.total 8 two (simp length-write (omega arith)) w.total,
      word_write 4 h.live 12 three (simp length-write (omega arith)) w.live,
    )

-- and each change of it
pub words-flushed : (g : Geometry) (h : Head) → HeadWords h → h.flushes + 1 < 2 ^ 32 → g.kept < 2 ^ 32 → HeadWords (flushed_head g h)
words-flushed g h w more kept = record { flushes = more; listed = w.listed; total = w.total; live = omega arith }

pub words-lowered : (h : Head) → HeadWords h → HeadWords (lowered_head h)
words-lowered h w = record { flushes = w.flushes; listed = w.listed; total = w.total; live = omega (arith, w.live) }

pub words-listed : (h : Head) → HeadWords h → h.listed + 1 < 2 ^ 32 → HeadWords (listed_head h)
words-listed h w more = record { flushes = w.flushes; listed = more; total = w.total; live = w.live }

pub words-unlisted : (n : ℕ) (h : Head) → HeadWords h → HeadWords (unlisted_head n h)
words-unlisted n h w = record { flushes = w.flushes; listed = omega (arith, w.listed); total = w.total; live = w.live }

pub words-totalled : (more less : ℕ) (h : Head) → HeadWords h → h.total + more - less < 2 ^ 32 → HeadWords (totalled_head more less h)
words-totalled more less h w l = record { flushes = w.flushes; listed = w.listed; total = l; live = w.live }

-- ---- the head after a flush
module _ (g : Geometry) (p : List ℕ) where
  pub words-after : HeadWords (head_of p) → flushes_of p + 1 < 2 ^ 32 → g.kept < 2 ^ 32 → HeadWords (head_after g p)
  unfolding head_after
  words-after w more kept = words-unlisted _ (flushed_head g (head_of p)) (words-flushed g (head_of p) w more kept)

  -- it is made of the head as it was, in the order of its changes
  pub head-after : {h : Head} {n stay : ℕ} → h ≡ head_of p → stay ≡ unexpired g.kept (flushes_of p) (listed_of p) (list_of g p) → n ≡ listed_of p - stay → unlisted_head n (flushed_head g h) ≡ head_after g p
  unfolding head_after
  head-after e stays less = rw (less, stays, e)

  pub flushes-after : (head_after g p).flushes ≡ flushes_of p + 1
  unfolding head_after
  flushes-after = refl

  pub listed-after : (head_after g p).listed ≡ unexpired g.kept (flushes_of p) (listed_of p) (list_of g p)
  unfolding head_after
  listed-after = omega (arith, unexpired-le g.kept (flushes_of p) (listed_of p) (list_of g p))

  pub total-after : (head_after g p).total ≡ total_of p
  unfolding head_after
  total-after = refl

  -- its live number rises by 1, up to K
  pub live-after : (head_after g p).live ≡ min g.kept (live_of p + 1)
  unfolding head_after
  live-after = refl

  -- and it still fits
  pub fits_after : head_overfull g (head_of p) ≡ false → head_overfull g (head_after g p) ≡ false
  fits_after e =
      let h = head-fits g (head_of p) e in
      fits_head g (head_after g p) (record {
        list = omega (arith, listed-after, unexpired-le g.kept (flushes_of p) (listed_of p) (list_of g p), h.list);
        total = omega (arith, total-after, h.total);
        kept = omega (arith, live-after);
        flushed = omega (arith, live-after, flushes-after, h.flushed);
      })

-- ---- the head after a drop
module _ (g : Geometry) (less : ℕ) (p : List ℕ) where
  pub words-dropped : HeadWords (head_of p) → HeadWords (head_dropped g less p)
  unfolding head_dropped
  words-dropped w = words-totalled 0 less _ (words-unlisted _ (lowered_head (head_of p)) (words-lowered (head_of p) w)) (omega (arith, w.total))

  -- it is made of the head as it was, in the order of its changes
  pub head-dropped : {h : Head} {n stay : ℕ} → h ≡ head_of p → stay ≡ unexpired (live_of p) (flushes_of p) (listed_of p) (list_of g p) → n ≡ listed_of p - stay
      → totalled_head 0 less (unlisted_head n (lowered_head h)) ≡ head_dropped g less p
  unfolding head_dropped
  head-dropped e stays gone = rw (gone, stays, e)

  pub flushes-dropped : (head_dropped g less p).flushes ≡ flushes_of p
  unfolding head_dropped
  flushes-dropped = refl

  pub listed-dropped : (head_dropped g less p).listed ≡ unexpired (live_of p) (flushes_of p) (listed_of p) (list_of g p)
  unfolding head_dropped
  listed-dropped = omega (arith, unexpired-le (live_of p) (flushes_of p) (listed_of p) (list_of g p))

  pub total-dropped : (head_dropped g less p).total ≡ total_of p + 0 - less
  unfolding head_dropped
  total-dropped = refl

  pub live-dropped : (head_dropped g less p).live ≡ live_of p - 1
  unfolding head_dropped
  live-dropped = refl
