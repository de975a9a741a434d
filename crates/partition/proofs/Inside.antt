-- The list and the buffer pages lie inside a partition's bytes; and a part that begins where a buffer page does is that page: one fact for all functions that lend it.
use Prim.Native.Nat.{ℕ, ◌+◌, ◌-◌, ◌*◌, ◌≤◌, ◌<◌}
use mathlib.Core.List.{List}
use mathlib.Core.Path.{◌≡◌}
use native.Mathlib.Nat.{add-sub_cancel_left}
use native.Mathlib.Omega.{arith}
use lib.ListN.{length}
use borrow.Rule.Slice.PartMut.{put_mid}
use Rattle.model.specs.declared.Geometry.{Geometry}
use Rattle.model.specs.Bytes.{mid, within}
use Rattle.model.specs.Geometry.{buffer_at}
use Rattle.model.specs.Partition.{buffer_of}
use Rattle.model.proofs.Parts.{lent, length-mid}
use Rattle.model.proofs.Sizes.{sizes, buffer-behind-list, buffer-fits}
use Rattle.partition.specs.Ready.{Whole}

-- the part of g.page bytes from a on is buffer page q, and a change of it that keeps its length is one of the partition there
pub record LentPage (g : Geometry) (q : ℕ) (p : List ℕ) (a : ℕ) : Type 0 where
  pub inside : a + g.page ≤ length p
  pub own : mid a (a + g.page - a) p ≡ buffer_of g p q
  pub long : length (buffer_of g p q) ≡ g.page
  pub back : (f : List ℕ → List ℕ) → ((x : List ℕ) → length (f x) ≡ length x) → (ys : List ℕ) → ys ≡ f (mid a (a + g.page - a) p) → put_mid a (a + g.page - a) p ys ≡ within (buffer_at g q) g.page f p

module _ (g : Geometry) (p : List ℕ) (w : Whole g p) where
  pub page-inside : (q : ℕ) → q < g.pages → buffer_at g q + g.page ≤ length p
  page-inside q l = omega (arith, buffer-fits g q l)

  pub list_inside : 16 + 16 * g.list ≤ length p
  list_inside = let z = sizes g w.fine in omega (arith, buffer-behind-list g 0, page-inside 0 (omega arith))

  pub lends-page : (q a : ℕ) → q < g.pages → a ≡ buffer_at g q → LentPage g q p a
  lends-page q a l e =
      rw e
      (record {
        inside = page-inside q l;
        own = rw add-sub_cancel_left;
        long = length-mid _ _ p (page-inside q l);
        back = λ f keeps ys h. lent (buffer_at g q) g.page f p ys (page-inside q l) keeps h;
      })
