-- The puts of keys below 2^18, on both areas: none is refused, and after each the page that they share is as full, and its partition flushed as often, as their number says.
use Prim.Native.Nat.{ℕ, zero, suc, ◌+◌, ◌-◌, ◌*◌, ◌%◌, ◌^◌, ◌<◌}
use mathlib.Core.Bool.{Bool, true, false, and-false}
use mathlib.Core.Path.{◌≡◌, refl, sym, ◌∙◌, ap}
use Rattle.std.specs.Prelude.{Option, None, Some}
use native.Mathlib.Omega.{arith}
use native.Mathlib.Nat.{mod-lt, mul-le-mul_left, mul-le-mul_right, lt_of_mul-lt-mul_right, div-eq_of_lt-le, add-zero}
use lib.Dec.{eqb}
use lib.ListN.{length}
use borrow.Author.Tests.{ne_eqb, eqb-true}
use Rattle.model.specs.declared.Geometry.{Geometry}
use Rattle.model.specs.Geometry.{capacity, partitions}
use Rattle.model.specs.Card.{most_flushes, first_lost}
use Rattle.model.specs.Keys.{partition_of}
use Rattle.model.specs.Refusals.{last_flush}
use Rattle.model.specs.Answers.{Areas}
use Rattle.model.specs.Calls.{put, get, checks, reply, effect, after, run}
use Rattle.model.proofs.Tests.{numbers, either}
use Rattle.model.proofs.Sizes.{Sizes, sizes, capacity-max, lost-max}
use Rattle.model.proofs.SmallKeys.{small-page, small-partition}
use Rattle.model.proofs.Sums.{sum-at}
use Rattle.model.proofs.KeyedChecks.{a-position}
use Rattle.model.proofs.Partitions.{modify}
use Rattle.history.specs.History.{putting, turned_down, heard, events}
use Rattle.history.specs.Claim.{said, value_of}
use Rattle.history.proofs.FromFormat.{done-leaves}
use Rattle.history.proofs.Table.{Part, due, flushed, stored}
use Rattle.history.proofs.Checking.{put-checks}
use Rattle.history.proofs.InStep.{InStep}
use Rattle.history.proofs.Demand.{says}
use Rattle.history.proofs.Keyed.{put-result}
use Rattle.carrying.specs.Carrying.{flushes_done, given, last_put, one_page_from, NoneRefused}
use Rattle.carrying.proofs.Pacing.{under, Paced, done-flushes, put-paced}
use Rattle.carrying.proofs.Filling.{too-old, Filled, filled-flush, key-new, filled_put}

-- after n of the puts
pub record At (g : Geometry) (n : ℕ) (a : Areas) (d : ℕ → Option ℕ) : Type 0 where
  pub paced : Paced g n a d
  pub filled : Filled (capacity g) n (paced.in_step.table 0).flushes ((paced.in_step.table 0).buffer 0) (paced.history.keys 0)
  pub last : 0 < n → d 0 ≡ Some 1

module _ {g : Geometry} {n : ℕ} {a : Areas} {d : ℕ → Option ℕ} (at : At g n a d) where
  abbrev inv : InStep a (under g at.paced.history)
  inv = at.paced.in_step

  abbrev s : Part
  s = inv.table 0

  bounds : Sizes g
  bounds = sizes g inv.shows.ok

  pub most-flushes : flushes_done a ≡ most_flushes g n
  unfolding most_flushes
  most-flushes =
      let own = sum-at (partitions g) (λ t. (inv.table t).flushes) 0 bounds.partitions-min in
      let reached : n - 1 < (s.flushes + 1) * capacity g = omega (arith, at.filled.puts, (inv.good.core.parts 0).fits 0, bounds.capacity-min) in
      rw (done-flushes a _ inv) (sym (div-eq_of_lt-le (capacity g) at.paced.few (omega (arith, reached, mul-le-mul_right (capacity g) own))))

  pub first-lost : n ≡ first_lost g → said (reply a (get 0)) ≡ Some None
  unfolding first_lost
  first-lost e =
      let often : g.kept < s.flushes = lt_of_mul-lt-mul_right (capacity g) (omega (arith, e, at.filled.puts, (inv.good.core.parts 0).fits 0)) in
      says a _ inv 0 (omega arith)
      ∙ ap (λ w. Some (value_of w)) (too-old (inv.good.core.keys 0) s.flushes (omega (arith, often, (inv.good.core.parts (partition_of g 0)).live_kept)) (at.filled.first (omega (arith, e, lost-max g inv.shows.ok))))

  -- ---- the next put
  abbrev key : ℕ
  key = n % 2 ^ 18

  abbrev full : Bool
  full = eqb (length (s.buffer 0)) (capacity g)

  small : key < 2 ^ 18
  small = mod-lt n (omega arith)

  wide : key < 2 ^ 64
  wide = omega (arith, small)

  here : (k : ℕ) → k < 2 ^ 18 → partition_of g k ≡ 0
  here k l = small-partition g k l inv.shows.ok

  short : length (s.buffer 0) < 2 ^ 18
  short = omega (arith, (inv.good.core.parts 0).fits 0, capacity-max g inv.shows.ok)

  is-due : due g key (inv.table (partition_of g key)) ≡ full
  unfolding due
  is-due = rw (here key small, small-page g key small, key-new at.filled short)

  put_last : given d (putting key 1 0) 0 ≡ Some 1
  put_last = either (eqb 0 key) (λ e. simp e) (λ e. simp (e, at.last (omega numbers)))

  module _ (more : suc n < 2 ^ 32) where
    passes : checks a (put key 1) ≡ None
    passes =
        let left : (inv.table (partition_of g key)).flushes ≡ last_flush → ⊥ = rw (here key small) (λ e. omega (arith, at.filled.puts, mul-le-mul_left s.flushes bounds.capacity-min)) in
        put-checks inv key wide 1 ∙ rw (a-position 1 (omega arith), ne_eqb _ last_flush left, and-false) refl

    put-at : (b : Bool) → full ≡ b → At g (suc n) (effect a (put key 1)) (given d (putting key 1 0))
    unfolding modify stored flushed
    put-at false is = record {
      paced = put-paced at.paced key wide 1 (omega arith) passes false (is-due ∙ is);
      filled = rw (here key small, small-page g key small) (filled_put at.filled short inv.good.fine.some_entry);
      last = λ l. put_last;
    }
    put-at true is = record {
      paced = put-paced at.paced key wide 1 (omega arith) passes true (is-due ∙ is);
      filled = rw (here key small, small-page g key small, here 0 (omega arith)) (filled_put (filled-flush at.filled g.kept (eqb-true _ _ is)) (omega arith) inv.good.fine.some_entry);
      last = λ l. put_last;
    }

    put_next : At g (suc n) (after a (put key 1)) (given d (heard (put key 1) (reply a (put key 1)))) × (heard (put key 1) (reply a (put key 1)) ≡ turned_down → ⊥)
    put_next = done-leaves a (put key 1) (λ a' e. At g (suc n) a' (given d e) × (e ≡ turned_down → ⊥)) _ (put-result a _ inv key wide 1 (omega arith)) passes
        (put-at full refl, λ e. let z : ◌≡◌ {A = ℕ} 0 1 = cc in omega arith)

pub along : {g : Geometry} (total : ℕ) → total < 2 ^ 32 → (m n : ℕ) → n + m ≡ total → (a : Areas) (d : ℕ → Option ℕ) → At g n a d
    → At g total (run a (one_page_from n m)) (last_put d (events a (one_page_from n m))) × NoneRefused (events a (one_page_from n m))
unfolding one_page_from run events last_put
along total few zero n e a d at = (rw (← e, add-zero) at, tt)
along total few (suc m) n e a d at =
    let now = put_next at (omega arith) in
    let rest = along total few m (suc n) (omega arith) _ _ now.0 in
    (rest.0, (now.1, rest.1))
