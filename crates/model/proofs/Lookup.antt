-- A get's answer, by where the key is, and by the pages that it reads.
use Prim.Native.Nat.{ℕ, ◌+◌, ◌*◌, ◌≤◌}
use mathlib.Core.Bool.{true, cond}
use mathlib.Core.List.{List, [], ◌∷◌}
use Rattle.std.specs.Prelude.{Option, None, Some}
use mathlib.Core.Path.{◌≡◌, refl}
use native.Mathlib.Omega.{arith}
use lib.Dec.{eqb}
use borrow.Author.Tests.{leb-true, le-leb, eq-eqb, eqb-true}
use Rattle.model.specs.declared.Geometry.{Geometry}
use Rattle.model.specs.Bytes.{word}
use Rattle.model.specs.Geometry.{allowed, capacity}
use Rattle.model.specs.Keys.{partition_of, page_of}
use Rattle.model.specs.Page.{count_of, searched, compared_at, compared, expected}
use Rattle.model.specs.DeleteList.{listed_at}
use Rattle.model.specs.Partition.{listed_of, list_of, buffer_of, passing}
use Rattle.model.specs.Answers.{Tally, absent, refused, tally, page_read, buffer, batch}
use Rattle.model.specs.Batch.{batch_page}
use Rattle.model.specs.Get.{hit_in, reads_for, reported, read_through, sought}
use Rattle.model.proofs.Searching.{first-at}
use Rattle.model.proofs.Sizes.{sizes}
use Rattle.model.proofs.Tests.{both_true}

-- what 13 looks at: the head of page q of batch n of partition t
pub record BatchHead (g : Geometry) (t n q : ℕ) (p : List ℕ) : Type 0 where
  pub fits : count_of p ≤ capacity g
  pub number : word 2 p 2 ≡ q
  pub partition : word 2 p 4 ≡ t
  pub zero : word 2 p 6 ≡ 0
  pub flush : word 4 p 8 ≡ n

module _ (g : Geometry) (t n q : ℕ) (p : List ℕ) where
  pub head-expected : BatchHead g t n q p → expected g t n q p ≡ true
  unfolding expected
  head-expected h = simp (le-leb _ _ h.fits, eq-eqb _ _ h.number, eq-eqb _ _ h.partition, eq-eqb _ _ h.zero, eq-eqb _ _ h.flush)

  pub expected-head : expected g t n q p ≡ true → BatchHead g t n q p
  unfolding expected
  expected-head h =
      let four = both_true _ (eqb (word 4 p 8) n) h in
      let three = both_true _ (eqb (word 2 p 6) 0) four.0 in
      let two = both_true _ (eqb (word 2 p 4) t) three.0 in
      let one = both_true _ (eqb (word 2 p 2) q) two.0 in
      record {
        fits = leb-true (count_of p) (capacity g) one.0;
        number = eqb-true _ _ one.1;
        partition = eqb-true _ _ two.1;
        zero = eqb-true _ _ three.1;
        flush = eqb-true _ _ four.1;
      }

  -- so its used entries fit it
  pub expected-fits : allowed g ≡ true → expected g t n q p ≡ true → 16 + 16 * count_of p ≤ g.page
  expected-fits ok h = omega (arith, (sizes g ok).page-is, (expected-head h).fits)

-- ---- what a search compares: the entry that it finds and those before it, or all used ones
module _ (k : ℕ) (p : List ℕ) where
  pub compared_at_lem : (o : Option ℕ) → searched k p ≡ o → compared k p ≡ compared_at o p
  unfolding compared
  compared_at_lem o e = rw e

  pub compared-most : compared k p ≤ count_of p
  compared-most = go (searched k p) refl
    where
      go : (o : Option ℕ) → searched k p ≡ o → compared k p ≤ count_of p
      go (Some i) e = let w = first-at _ _ _ _ e in rw (compared_at_lem (Some i) e) (omega arith)
      go None e = rw (compared_at_lem None e) (omega arith)

-- ---- the reads that an answer tells: none of no page, and never more than the pages
pub reads_none : (g : Geometry) → reads_for g 0 ≡ 0
unfolding reads_for
reads_none g = refl

pub reads-most : (g : Geometry) (n : ℕ) → reads_for g n ≤ n
unfolding reads_for
reads-most g n = omega arith

-- one of each page
pub reads-each : (g : Geometry) (n : ℕ) → reads_for g n ≡ n
unfolding reads_for
reads-each g n = refl

module _ (g : Geometry) (k : ℕ) (f : List ℕ) where
  -- ---- through batches, after a cost
  pub read_none : (c : Tally) → read_through g k f [] c ≡ absent (reported g c)
  unfolding read_through
  read_none c = refl

  -- and with the key's page of batch n
  abbrev pub with_page : ℕ → Tally → Tally
  with_page n c = page_read (compared k (batch_page g (partition_of g k) f n (page_of g k))) c

  pub read-batch : (n : ℕ) (ns : List ℕ) (c : Tally) → let page = batch_page g (partition_of g k) f n (page_of g k) in
      read_through g k f (n ∷ ns) c ≡ cond (expected g (partition_of g k) n (page_of g k) page) (hit_in page (reported g (with_page n c)) (batch n) (searched k page) (read_through g k f ns (with_page n c))) (refused 13 (reads_for g (c.reads + 1)))
  unfolding read_through
  read-batch n ns c = refl

  -- ---- a listed key, and any other
  module _ (p : List ℕ) where
    pub sought-listed : (i : ℕ) → listed_at (listed_of p) k (list_of g p) ≡ Some i → sought g k p f ≡ absent (tally 0 0)
    unfolding sought
    sought-listed i e = rw e

    pub sought-unlisted : listed_at (listed_of p) k (list_of g p) ≡ None → let page = buffer_of g p (page_of g k) in
        sought g k p f ≡ hit_in page (tally 0 (compared k page)) buffer (searched k page) (read_through g k f (passing g k p) (tally 0 (compared k page)))
    unfolding sought
    sought-unlisted e = rw e
