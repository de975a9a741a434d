-- The whole answer of a get from flash is at all times the answer from here on: each batch that is passed over or searched keeps it so.
use Prim.Native.Nat.{ℕ, ◌+◌, ◌-◌, ◌*◌, ◌^◌, ◌≤◌, ◌<◌}
use mathlib.Core.Bool.{Bool, true, false}
use mathlib.Core.List.{List}
use mathlib.Core.Path.{◌≡◌, refl, sym, ◌∙◌, ap, ap₂}
use native.Mathlib.Nat.{add-sub_cancel_left}
use native.Mathlib.Omega.{arith}
use borrow.Author.Tests.{eqb-true}
use lib.ListN.{length}
use Rattle.std.specs.Prelude.{Option, Some, None, unwrap_or}
use Rattle.model.specs.declared.Geometry.{Geometry}
use Rattle.model.specs.Bytes.{mid}
use Rattle.model.specs.Geometry.{allowed, slot_page_at, flash_need}
use Rattle.model.specs.Keys.{partition_of, page_of}
use Rattle.model.specs.Records.{key_at}
use Rattle.model.specs.Page.{count_of, value_at, searched, compared, expected}
use Rattle.model.specs.Partition.{flushes_of, live_of, slot, batch_passes, passing, passing_from}
use Rattle.model.specs.Answers.{Tally, tally, page_read, Answer, found, absent, refused, batch}
use Rattle.model.specs.Get.{hit_in, read_through}
use Rattle.model.proofs.Passing.{pass-take, pass-skip, pass-end, passing-from}
use Rattle.model.proofs.Lookup.{expected-fits, reads-each, read_none, read-batch}
use Rattle.model.proofs.Parts.{length-mid}
use Rattle.model.proofs.Searching.{first-at}
use Rattle.model.proofs.Sizes.{partition-of-lt, page-of-lt, slot_lt, slot-page-fits, flash-max}

-- ---- the key's page of batch n, and where it lies
module _ (g : Geometry) (k n : ℕ) where
  abbrev pub spot_of : ℕ
  spot_of = slot_page_at g (partition_of g k) (slot g n) (page_of g k)

  abbrev pub page_in : List ℕ → List ℕ
  page_in f = mid spot_of g.page f

  abbrev pub Expected : List ℕ → Bool
  Expected f = expected g (partition_of g k) n (page_of g k) (page_in f)

  -- it begins at `at`: what is lent from there on is it, and where its head is as expected, its used entries fit it
  pub record PageAt (f : List ℕ) (at : ℕ) : Type 0 where
    pub place : at ≡ spot_of
    pub inside : at + g.page ≤ length f
    pub small : at + g.page ≤ 2147483648
    pub own : mid at (at + g.page - at) f ≡ page_in f
    pub long : length (page_in f) ≡ g.page
    pub room : Expected f ≡ true → 16 + 16 * count_of (page_in f) ≤ g.page

  pub page-at : allowed g ≡ true → k < 2 ^ 64 → (f : List ℕ) → flash_need g ≤ length f → (at : ℕ) → at ≡ spot_of → PageAt f at
  page-at ok l f long at e =
      let fits = slot-page-fits g _ _ _ (partition-of-lt g ok k l) (slot_lt g ok n) (page-of-lt g ok k) in
      record {
        place = e;
        inside = omega (arith, e, fits);
        small = omega (arith, e, fits, flash-max g ok);
        own = rw (add-sub_cancel_left, e);
        long = length-mid _ _ f (omega (arith, fits));
        room = λ x. expected-fits g _ _ _ _ ok x;
      }

-- ---- where the search of a page stopped: at the entry that it found, or behind the used ones
module _ (k : ℕ) (page : List ℕ) (i : ℕ) (stopped : i ≡ unwrap_or (searched k page) (count_of page + 1)) where
  pub stopped-at : i ≤ count_of page → searched k page ≡ Some i
  stopped-at l = go (searched k page) refl
    where
      go : (o : Option ℕ) → searched k page ≡ o → searched k page ≡ Some i
      go (Some j) e = let s : i ≡ j = rw e at stopped in e ∙ ap Some (sym s)
      go None e = let s : i ≡ count_of page + 1 = rw e at stopped in absurd (omega arith)

  -- so the entry there has the key
  pub stopped-key : i ≤ count_of page → key_at page i ≡ k
  stopped-key l = eqb-true _ _ (first-at _ _ _ _ (stopped-at l)).passed

  pub stopped-behind : count_of page < i → searched k page ≡ None
  stopped-behind l = go (searched k page) refl
    where
      go : (o : Option ℕ) → searched k page ≡ o → searched k page ≡ None
      go (Some j) e = let s : i ≡ j = rw e at stopped in absurd (omega (arith, (first-at _ _ _ _ e).high))
      go None e = e

-- ---- the answer after what was already spent
module _ (g : Geometry) (k : ℕ) (p f : List ℕ) (already : Tally) where
  abbrev pub whole : Answer
  whole = read_through g k f (passing g k p) already

  module _ (live flushes : ℕ) where
    -- it is what the batches older than the `age` youngest give, after a cost
    abbrev pub LeftAt : ℕ → Tally → Type 0
    LeftAt age cost = whole ≡ read_through g k f (passing_from g k p (live - age) (flushes - age)) cost

    pub left-all : live ≡ live_of p → flushes ≡ flushes_of p → LeftAt 0 already
    left-all el ef = let l : live - 0 ≡ live_of p = omega arith in let f : flushes - 0 ≡ flushes_of p = omega arith in rw (passing-from g k p, l, f)

    module _ (age : ℕ) (cost : Tally) (left : LeftAt age cost) where
      pub left-none : live ≤ age → whole ≡ absent cost
      left-none l = left ∙ rw (pass-end g k p (live - age) (flushes - age) (omega arith), read_none, reads-each)

      module _ (l : age < live) where
        older : passing_from g k p (live - age - 1) (flushes - age - 1) ≡ passing_from g k p (live - (age + 1)) (flushes - (age + 1))
        older = ap₂ (passing_from g k p) (omega arith) (omega arith)

        pub left-skip : batch_passes g k p (flushes - age) ≡ false → LeftAt (age + 1) cost
        left-skip h = left ∙ rw (pass-skip g k p (live - age) (flushes - age) (omega arith) h, older)

        -- a batch that passes
        module _ (h : batch_passes g k p (flushes - age) ≡ true) where
          abbrev page : List ℕ
          page = page_in g k (flushes - age) f

          pub left-bad : Expected g k (flushes - age) f ≡ false → whole ≡ refused 13 (cost.reads + 1)
          left-bad x = left ∙ rw (pass-take g k p (live - age) (flushes - age) (omega arith) h, read-batch, x, reads-each)

          -- its page is searched
          module _ (x : Expected g k (flushes - age) f ≡ true) (after : Tally) (er : after.reads ≡ cost.reads + 1) (ec : after.comparisons ≡ cost.comparisons + compared k page) where
            at-page : whole ≡ hit_in page after (batch (flushes - age)) (searched k page) (read_through g k f (passing_from g k p (live - (age + 1)) (flushes - (age + 1))) after)
            at-page =
                let e : after ≡ page_read (compared k page) cost = ap₂ (λ (r m : ℕ). tally r m) er ec in
                left ∙ rw (pass-take g k p (live - age) (flushes - age) (omega arith) h, older, read-batch, x, reads-each, e)

            pub left-found : (i : ℕ) → searched k page ≡ Some i → whole ≡ found (value_at page i) after (batch (flushes - age))
            left-found i s = at-page ∙ rw s

            pub left-next : searched k page ≡ None → LeftAt (age + 1) after
            left-next s = at-page ∙ rw s
