-- Texts joined one behind another: one text more, and their lengths; so those of pages, sources and partitions.
use mathlib.Core.Bool.{true, false}
use mathlib.Core.List.{List, [], ◌++◌, append-nil}
use mathlib.Core.Logic.{⊎_elim}
use mathlib.Core.Path.{◌≡◌, refl, ◌∙◌, ap}
use Prim.Native.Nat.{ℕ, zero, suc, ◌+◌, ◌-◌, ◌*◌, ◌≤◌, ◌<◌}
use native.Mathlib.Nat.{suc-mul, mul-add}
use native.Mathlib.Omega.{arith}
use lib.ListN.{length, length-append}
use Rattle.model.specs.declared.Geometry.{Geometry}
use Rattle.model.specs.Geometry.{allowed, capacity}
use Rattle.model.specs.Records.{key_at}
use Rattle.model.specs.Page.{count_of, value_at}
use Rattle.model.specs.Partition.{head_of, live_of}
use Rattle.model.specs.Batch.{sum, entries_of}
use Rattle.model.specs.Answers.{Place}
use Rattle.model.specs.PartitionText.{put_text, joined, source, source_page, answers_with, entry_text, page_text, source_text, partition_text}
use Rattle.model.proofs.Decimals.{length-decimal}
use Rattle.model.proofs.Parts.{lt-or-ge}
use Rattle.model.proofs.Sizes.{sizes}
use Rattle.model.proofs.Tests.{either}

pub joined-none : (f : ℕ → List ℕ) → joined 0 f ≡ []
unfolding joined
joined-none f = refl

pub joined-more : (n : ℕ) (f : ℕ → List ℕ) → joined (suc n) f ≡ joined n f ++ f n
unfolding joined
joined-more n f = refl

pub joined_length : (n : ℕ) (f : ℕ → List ℕ) → length (joined (suc n) f) ≡ length (joined n f) + length (f n)
joined_length n f = ap length (joined-more n f) ∙ length-append (joined n f) (f n)

-- of texts of which none is above `most`
pub joined-most : (n most : ℕ) (f : ℕ → List ℕ) → ((i : ℕ) → i < n → length (f i) ≤ most) → length (joined n f) ≤ n * most
joined-most zero most f h = omega (arith, ap length (joined-none f))
joined-most (suc n) most f h = omega (arith, suc-mul n most, joined_length n f, h n (omega arith), joined-most n most f (λ i l. h i (omega arith)))

-- of texts of which each has at most `most` for each that it counts
pub joined-sum : (n most : ℕ) (f : ℕ → List ℕ) (c : ℕ → ℕ) → ((i : ℕ) → i < n → length (f i) ≤ most * c i) → length (joined n f) ≤ most * sum n c
unfolding sum
joined-sum zero most f c h = omega (arith, ap length (joined-none f))
joined-sum (suc n) most f c h = omega (arith, mul-add most (c n) (sum n c), joined_length n f, h n (omega arith), joined-sum n most f c (λ i l. h i (omega arith)))

-- some of them are no longer than more of them
pub joined-within : (n m : ℕ) (f : ℕ → List ℕ) → n ≤ m → length (joined n f) ≤ length (joined m f)
joined-within n zero f l = let e : n ≡ 0 = omega arith in rw e (omega arith)
joined-within n (suc m) f l = ⊎_elim (λ (b : n < suc m). omega (arith, joined_length m f, joined-within n m f (omega arith))) (λ (g : suc m ≤ n). let e : n ≡ suc m = omega arith in rw e (omega arith)) (lt-or-ge n (suc m))

-- where none has a text, and where one alone has
pub joined-empty : (n : ℕ) (f : ℕ → List ℕ) → ((i : ℕ) → i < n → f i ≡ []) → joined n f ≡ []
joined-empty zero f h = joined-none f
joined-empty (suc n) f h = rw (joined-more n f, joined-empty n f (λ i l. h i (omega arith)), h n (omega arith))

pub joined-one : (n : ℕ) (f : ℕ → List ℕ) (j : ℕ) → j < n → ((i : ℕ) → i < n → (i ≡ j → ⊥) → f i ≡ []) → joined n f ≡ f j
joined-one zero f j l h = absurd (omega arith)
joined-one (suc n) f j l h = ⊎_elim
    (λ (b : j < n). rw (joined-more n f, h n (omega arith) (λ e. omega arith), joined-one n f j b (λ i m. h i (omega arith))) (append-nil (f j)))
    (λ (g : n ≤ j). let e : j ≡ n = omega arith in rw (joined-more n f, joined-empty n f (λ i m. h i (omega arith) (λ d. omega arith)), e))
    (lt-or-ge j n)

-- a line has at most 48 bytes
pub put-most : (k v : ℕ) → length (put_text k v) ≤ 48
unfolding put_text
put-most k v = simp length-append (omega (arith, length-decimal k, length-decimal v))

-- the lines of a page's entries before entry i, which a loop over the entries has come to
unfoldable pub lines_before : Geometry → ℕ → List ℕ → List ℕ → Place → ℕ → ℕ → List ℕ
lines_before g t p f at q i = joined (i - 1) (λ j. entry_text g t p f at q (j + 1))

-- ---- the text of partition t
module _ (g : Geometry) (t : ℕ) (p f : List ℕ) where
  module _ (at : Place) where
    -- of an entry: the line of its key and value if a get answers with it, and otherwise none
    pub entry-line : (q i : ℕ) → answers_with g t p f at q i ≡ true → entry_text g t p f at q i ≡ put_text (key_at (source_page g t p f at q) i) (value_at (source_page g t p f at q) i)
    unfolding entry_text
    entry-line q i e = rw e

    pub entry-none : (q i : ℕ) → answers_with g t p f at q i ≡ false → entry_text g t p f at q i ≡ []
    unfolding entry_text
    entry-none q i e = rw e

    -- of a page, and of a source
    pub page-text : (q : ℕ) → page_text g t p f at q ≡ joined (count_of (source_page g t p f at q)) (λ i. entry_text g t p f at q (i + 1))
    unfolding page_text
    page-text q = refl

    pub lines-first : (q : ℕ) → lines_before g t p f at q 1 ≡ []
    unfolding lines_before
    lines-first q = joined-none _

    pub lines_next : (q i : ℕ) → 1 ≤ i → lines_before g t p f at q (i + 1) ≡ lines_before g t p f at q i ++ entry_text g t p f at q i
    unfolding lines_before
    lines_next q i l =
        let one : i + 1 - 1 ≡ suc (i - 1) = omega arith in
        let same : i - 1 + 1 ≡ i = omega arith in
        rw (one, joined-more (i - 1) (λ j. entry_text g t p f at q (j + 1)), same)

    pub lines-last : (q : ℕ) → lines_before g t p f at q (count_of (source_page g t p f at q) + 1) ≡ page_text g t p f at q
    unfolding lines_before page_text
    lines-last q = let same : count_of (source_page g t p f at q) + 1 - 1 ≡ count_of (source_page g t p f at q) = omega arith in rw same

    -- with the next entry's line they are no longer than the page's
    pub lines-within : (q i : ℕ) → 1 ≤ i → i ≤ count_of (source_page g t p f at q) → length (lines_before g t p f at q i) + length (entry_text g t p f at q i) ≤ length (page_text g t p f at q)
    unfolding lines_before page_text
    lines-within q i l h =
        omega (arith, ap length (lines_next q i l), length-append (lines_before g t p f at q i) (entry_text g t p f at q i), joined-within (i + 1 - 1) (count_of (source_page g t p f at q)) (λ j. entry_text g t p f at q (j + 1)) (omega arith))

    pub source-text : source_text g t p f at ≡ joined g.pages (page_text g t p f at)
    unfolding source_text
    source-text = refl

  pub partition-text : partition_text g t p f ≡ joined (live_of p + 1) (λ i. source_text g t p f (source (head_of p) i))
  unfolding partition_text
  partition-text = refl

  -- ---- what it has at most: 48 bytes for each entry that the pages count
  module _ (at : Place) where
    pub entry-most : (q i : ℕ) → length (entry_text g t p f at q i) ≤ 48
    entry-most q i = either (answers_with g t p f at q i) (λ yes. rw (entry-line at q i yes) (put-most _ _)) (λ no. rw (entry-none at q i no) (omega arith))

    page-short : (q : ℕ) → length (page_text g t p f at q) ≤ 48 * count_of (source_page g t p f at q)
    page-short q = omega (arith, ap length (page-text at q), joined-most (count_of (source_page g t p f at q)) 48 (λ i. entry_text g t p f at q (i + 1)) (λ i l. entry-most q (i + 1)))

    source-short : length (source_text g t p f at) ≤ 48 * entries_of (source_page g t p f at) g.pages
    source-short = rw (source-text at) (joined-sum g.pages 48 (page_text g t p f at) (λ q. count_of (source_page g t p f at q)) (λ q l. page-short q))

  pub text-short : length (partition_text g t p f) ≤ 48 * sum (live_of p + 1) (λ i. entries_of (source_page g t p f (source (head_of p) i)) g.pages)
  text-short = rw partition-text (joined-sum (live_of p + 1) 48 (λ i. source_text g t p f (source (head_of p) i)) (λ i. entries_of (source_page g t p f (source (head_of p) i)) g.pages) (λ i l. source-short (source (head_of p) i)))

  -- ---- and where the pages count no more entries than they hold
  module _ (ok : allowed g ≡ true) where
    module _ (at : Place) where
      pub page-most : (q : ℕ) → count_of (source_page g t p f at q) ≤ capacity g → length (page_text g t p f at q) ≤ 12240
      page-most q fits = omega (arith, (sizes g ok).page-max, page-short at q)

      pub source-most : ((q : ℕ) → q < g.pages → count_of (source_page g t p f at q) ≤ capacity g) → length (source_text g t p f at) ≤ 783360
      source-most fits = omega (arith, ap length (source-text at), (sizes g ok).pages-max, joined-most g.pages 12240 (page_text g t p f at) (λ q l. page-most q (fits q l)))

    pub text-most : live_of p ≤ g.kept → ((i q : ℕ) → i ≤ live_of p → q < g.pages → count_of (source_page g t p f (source (head_of p) i) q) ≤ capacity g) → length (partition_text g t p f) ≤ 25850880
    text-most kept fits = omega (arith, ap length partition-text, (sizes g ok).kept-max, joined-most (live_of p + 1) 783360 (λ i. source_text g t p f (source (head_of p) i)) (λ i l. source-most (source (head_of p) i) (λ q b. fits i q (omega arith) b)))
