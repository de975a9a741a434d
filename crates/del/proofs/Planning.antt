-- Which plan each outcome of the tests gives, and what a plan means for the call.
use Prim.Native.Nat.{ℕ, ◌≤◌, ◌<◌}
use mathlib.Core.Bool.{Bool, true, false, ◌&&◌}
use mathlib.Core.List.{List}
use mathlib.Core.Path.{◌≡◌, refl, ◌∙◌}
use native.Mathlib.Omega.{arith}
use lib.Dec.{eqb}
use borrow.Author.Tests.{eqb-false, eq-eqb, ne_eqb}
use Rattle.std.specs.Prelude.{Option, None, Some, Result, Ok, Err}
use Rattle.model.specs.declared.Geometry.{Geometry}
use Rattle.model.specs.Search.{is_some}
use Rattle.model.specs.Keys.{page_of}
use Rattle.model.specs.Page.{searched, taken}
use Rattle.model.specs.Partition.{head_of, listed_of, totalled, total_of, buffer_of}
use Rattle.model.specs.Answers.{Refusal, unread}
use Rattle.model.specs.Refusals.{head_overfull, key_overfull, total_out}
use Rattle.model.specs.Del.{is_listed, stamp_for, del_checks, unbuffered, listed_with, deleted}
use Rattle.model.proofs.Tests.{either}
use Rattle.model.proofs.Heads.{head-fits, total-in, in-total, total-below}
use Rattle.model.proofs.Checks.{key_fits}
use Rattle.model.proofs.KeyedChecks.{del-12, del-full, removes-listed, removes-taken}
use Rattle.model.proofs.PartitionsCalls.{deleted-listed, deleted-stamped}
use Rattle.del.specs.declared.Plan.{Plan}
use Rattle.del.specs.Plans.{plan_removal, plan_listing, plan_for, Listable}

-- ---- the entries that leave a page with a key
module _ (k : ℕ) (page : List ℕ) where
  taken_at : (i : ℕ) → searched k page ≡ Some i → taken k page ≡ 1
  unfolding taken
  taken_at i e = rw e

  taken_none : searched k page ≡ None → taken k page ≡ 0
  unfolding taken
  taken_none e = rw e

  pub taken-most : taken k page ≤ 1
  taken-most = go (searched k page) refl
    where
      go : (o : Option ℕ) → searched k page ≡ o → taken k page ≤ 1
      go None e = omega (arith, taken_none e)
      go (Some i) e = omega (arith, taken_at i e)

module _ (g : Geometry) (k : ℕ) (p : List ℕ) where
  abbrev page : List ℕ
  page = buffer_of g p (page_of g k)

  -- ---- from the tests to the plan
  -- a total in its bounds, less what it counts
  stays : (less : ℕ) → head_overfull g (head_of p) ≡ false → less ≤ total_of p → total_out g 0 less (head_of p) ≡ false
  stays less fits l = in-total g (head_of p) 0 less (omega arith) (omega (arith, (head-fits g (head_of p) fits).total))

  module _ (y : Option ℕ) (fits : key_overfull g k p ≡ false) where
    counted : taken k page ≤ total_of p → plan_removal g k y p ≡ Ok (Plan.Remove y)
    unfolding plan_removal
    counted l = rw (stays (taken k page) (key_fits g p k fits).0 l)

    pub some-counted : (total_of p ≡ 0 → ⊥) → plan_removal g k y p ≡ Ok (Plan.Remove y)
    some-counted h = counted (omega (arith, taken-most k page))

    pub none-taken : searched k page ≡ None → plan_removal g k y p ≡ Ok (Plan.Remove y)
    none-taken e = counted (omega (arith, taken_none k page e))

  pub uncounted : (y : Option ℕ) (i : ℕ) → total_of p ≡ 0 → searched k page ≡ Some i → plan_removal g k y p ≡ Err (unread 12)
  unfolding plan_removal
  uncounted y i h e = rw (total-below g (head_of p) 0 (taken k page) (omega (arith, taken_at k page i e)))

  -- does a key that is to be listed find the list full?
  abbrev no_place : Bool
  no_place = is_some (stamp_for g k p) && eqb (listed_of p) g.list

  list-full : no_place ≡ true → plan_listing g k p ≡ Err (unread 14)
  unfolding plan_listing
  list-full h = rw h

  a-place : no_place ≡ false → plan_listing g k p ≡ plan_removal g k (stamp_for g k p) p
  unfolding plan_listing
  a-place h = rw h

  pub nowhere : is_some (stamp_for g k p) ≡ false → plan_listing g k p ≡ plan_removal g k (stamp_for g k p) p
  nowhere s = a-place (rw s)

  module _ (s : is_some (stamp_for g k p) ≡ true) where
    pub last-taken : listed_of p ≡ g.list → plan_listing g k p ≡ Err (unread 14)
    last-taken h = list-full (rw (s, eq-eqb (listed_of p) g.list h))

    pub last-free : (listed_of p ≡ g.list → ⊥) → plan_listing g k p ≡ plan_removal g k (stamp_for g k p) p
    last-free h = a-place (rw (s, ne_eqb (listed_of p) g.list h))

  pub over : key_overfull g k p ≡ true → plan_for g k p ≡ Err (unread 12)
  unfolding plan_for
  over h = rw h

  module _ (h : key_overfull g k p ≡ false) where
    pub already : is_listed g k p ≡ true → plan_for g k p ≡ Ok Plan.Nothing
    unfolding plan_for
    already d = rw (h, d)

    pub not_yet : is_listed g k p ≡ false → plan_for g k p ≡ plan_listing g k p
    unfolding plan_for
    not_yet d = rw (h, d)

  -- ---- what a plan means: which refusal the checks give, or that they give none, and what the del then is
  abbrev pub Means : Result Plan Refusal → Type 0
  Means (Err r) = del_checks g k p ≡ Some r
  Means (Ok Plan.Nothing) = (del_checks g k p ≡ None) × (deleted g k p ≡ p)
  Means (Ok (Plan.Remove y)) = (del_checks g k p ≡ None) × Listable g k y p × (deleted g k p ≡ totalled 0 (taken k page) (listed_with y g k (unbuffered g k p)))

  module _ (fits : key_overfull g k p ≡ false) (new : is_listed g k p ≡ false) where
    free : no_place ≡ false → (n : ℕ) → stamp_for g k p ≡ Some n → listed_of p < g.list
    free place n s = let other = eqb-false (listed_of p) g.list (rw s at place) in omega (arith, (head-fits g (head_of p) (key_fits g p k fits).0).list)

    -- behind 14, a removal is as the total says
    means-removal : no_place ≡ false → Means (plan_removal g k (stamp_for g k p) p)
    unfolding plan_removal
    means-removal place =
        either (total_out g 0 (taken k page) (head_of p)) (λ out. rw out (del-full g k p fits ∙ rw (new, place, removes-taken g k p new, out)))
        (λ counts. rw counts (
          del-full g k p fits ∙ rw (new, place, removes-taken g k p new, counts),
          record { fits = fits; free = free place; counted = omega (arith, (total-in g (head_of p) 0 (taken k page) counts).0) },
          deleted-stamped g k p new,
        ))

    means-new : Means (plan_listing g k p)
    means-new = either no_place (λ full. rw (list-full full) (del-full g k p fits ∙ rw (new, full))) (λ place. rw (a-place place) (means-removal place))

  pub plan-means : Means (plan_for g k p)
  plan-means =
      either (key_overfull g k p) (λ h. rw (over h) (del-12 g k p h))
      (λ h. either (is_listed g k p) (λ d. rw (already h d) (del-full g k p h ∙ rw (d, removes-listed g k p d, stays 0 (key_fits g p k h).0 (omega arith)), deleted-listed g k p d)) (λ d. rw (not_yet h d) (means-new h d)))
