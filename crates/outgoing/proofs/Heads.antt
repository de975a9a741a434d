-- The heads of a batch's pages, read in order: what is known after q of them, and what the first that fails or the last one tells.
use Prim.Native.Nat.{ℕ, ◌+◌, ◌-◌, ◌*◌, ◌≤◌, ◌<◌}
use mathlib.Core.Bool.{Bool, true, false, not}
use mathlib.Core.List.{List}
use mathlib.Core.Path.{◌≡◌, sym, ◌∙◌, ap}
use native.Mathlib.Nat.{add-zero, sub-zero}
use native.Mathlib.Omega.{arith}
use lib.ListN.{length}
use Rattle.model.specs.declared.Geometry.{Geometry}
use Rattle.model.specs.Bytes.{word, mid}
use Rattle.model.specs.Search.{first_from}
use Rattle.model.specs.Geometry.{allowed, partitions, slot_page_at, flash_need}
use Rattle.model.specs.Page.{count_of, expected}
use Rattle.model.specs.Partition.{slot}
use Rattle.model.specs.Batch.{batch_page, entries_of}
use Rattle.model.proofs.Lookup.{expected-fits}
use Rattle.model.proofs.Searching.{first-here, first_next, first-end}
use Rattle.model.proofs.Sizes.{sizes, slot_lt, slot-page-fits}
use Rattle.model.proofs.Sums.{sum-none, sum-next}
use Rattle.model.proofs.Words.{word-mid}
use Rattle.std.specs.Prelude.{Ok, Err}
use Rattle.outgoing.specs.Leaving.{heads_of}

module _ (g : Geometry) (t n : ℕ) (f : List ℕ) where
  abbrev page : ℕ → List ℕ
  page q = batch_page g t f n q

  abbrev fails : ℕ → Bool
  fails q = not (expected g t n q (page q))

  pub record Read (entries q : ℕ) : Type 0 where
    pub inside : q ≤ g.pages
    pub failing : first_from g.pages 0 fails ≡ first_from (g.pages - q) q fails
    pub counted : entries ≡ entries_of page q
    pub small : entries ≤ 255 * q

  pub none_read : Read 0 0
  none_read = record { inside = omega arith; failing = rw sub-zero; counted = sym (sum-none _); small = omega arith }

  module _ (entries q : ℕ) (read : Read entries q) where
    pub all_read : g.pages ≤ q → Ok entries ≡ heads_of g t n f
    unfolding heads_of
    all_read l =
        let e : q ≡ g.pages = omega (arith, read.inside) in
        rw (read.failing ∙ first-end fails g.pages q l, read.counted, e)

    -- page q begins at `at`, and b is whether its head is the one expected
    module _ (l : q < g.pages) (j at : ℕ) (ej : j ≡ slot g n) (e : at ≡ slot_page_at g t j q) (b : Bool) (eb : b ≡ expected g t n q (mid at g.page f)) where
      lies : mid at g.page f ≡ page q
      lies = rw (e, ej)

      own : b ≡ expected g t n q (page q)
      own = eb ∙ rw lies

      pub one-fails : b ≡ false → Err (record { number = 13; reads = q + 1 }) ≡ heads_of g t n f
      unfolding heads_of
      one-fails x = rw (read.failing ∙ first-here fails g.pages q l (ap not (sym own ∙ x)))

      count-in : allowed g ≡ true → count_of (page q) ≡ word 2 f at
      count-in ok = let z = sizes g ok in let small : 0 + 2 ≤ g.page = omega (arith, z.page-min) in rw (← lies, word-mid 2 f at g.page 0 small, add-zero)

      pub one_more : allowed g ≡ true → b ≡ true → (c : ℕ) → c ≡ word 2 f at → Read (entries + c) (q + 1)
      one_more ok x c ec =
          let z = sizes g ok in
          let fits = expected-fits g t n q (page q) ok (sym own ∙ x) in
          record {
            inside = omega arith;
            failing = read.failing ∙ first_next fails g.pages q l (ap not (sym own ∙ x));
            counted = rw (sum-next q (λ i. count_of (page i)), read.counted, count-in ok, ec);
            small = omega (arith, read.small, count-in ok, fits, z.page-max);
          }

  -- where a page of the batch lies in flash
  pub lies-in-flash : allowed g ≡ true → (q j at : ℕ) → t < partitions g → q < g.pages → j ≡ slot g n → at ≡ slot_page_at g t j q → flash_need g ≤ length f → at + g.page ≤ length f
  lies-in-flash ok q j at lt lq ej e fits = let here : at ≡ slot_page_at g t (slot g n) q = rw (e, ej) in omega (arith, here, slot-page-fits g t (slot g n) q lt (slot_lt g ok n) lq)
