-- A partition's bytes by their parts, the head, the list, the filters and the buffer pages, and what a change of one part does to each.
use Prim.Native.Nat.{ℕ, zero, suc, ◌+◌, ◌*◌, ◌≤◌, ◌<◌}
use mathlib.Core.Bool.{Bool, true, cond}
use mathlib.Core.Path.{◌≡◌, refl, sym, ◌∙◌, ap}
use mathlib.Core.List.{List}
use native.Mathlib.Numerals.{add-one}
use native.Mathlib.Omega.{arith}
use native.Mathlib.Decide.{ℕ_discrete}
use lib.Dec.{eqb, ltb}
use lib.ListN.{length}
use borrow.Author.Tests.{eq-eqb, ne_eqb, lt-ltb, le-ltb, ltb-true, ltb-false}
use Rattle.model.specs.declared.Geometry.{Geometry}
use Rattle.model.specs.Bytes.{mid, within}
use Rattle.model.specs.Geometry.{allowed, list_at, list_size, filter_at, filter_size, buffer_at, stride}
use Rattle.model.specs.Page.{emptied}
use Rattle.model.specs.Filter.{is_set}
use Rattle.model.specs.Partition.{Head, head_of, with_head, flushes_of, list_of, filter_of, buffer_of, slot_bits}
use Rattle.model.specs.Format.{emptied_pages}
use Rattle.model.proofs.Parts.{Apart, mid-ext, length-within, mid-within, mid-within-out}
use Rattle.model.proofs.Words.{get_or-write-out, word-within-out}
use Rattle.model.proofs.Sizes.{sizes, filter-from, filters-apart, filter-before-buffer, buffer-behind-list, buffer-fits, buffers-apart}
use Rattle.model.proofs.Lengths.{length-with_head, length-emptied, length-emptied_pages}
use Rattle.model.proofs.Heads.{HeadWords, head-back}
use Rattle.model.proofs.Tests.{either}

-- `f`, changed at `t` only
unfoldable pub modify : {A : Type 0} → ℕ → (A → A) → (ℕ → A) → ℕ → A
modify t c f u = cond (eqb u t) (c (f u)) (f u)

module _ {A : Type 0} (t : ℕ) (c : A → A) (f : ℕ → A) where
  pub modify-at : (u : ℕ) → u ≡ t → modify t c f u ≡ c (f u)
  unfolding modify
  modify-at u e = rw (eq-eqb u t e)

  pub modify-off : (u : ℕ) → (u ≡ t → ⊥) → modify t c f u ≡ f u
  unfolding modify
  modify-off u n = rw (ne_eqb u t n)

-- what the parts hold: the head, the list, the filters' bits by slot and the buffer pages
pub record Laid (g : Geometry) (p : List ℕ) (h : Head) (l : List ℕ) (bits : ℕ → ℕ → Bool) (bs : ℕ → List ℕ) : Type 0 where
  pub long : length p ≡ stride g
  pub head : head_of p ≡ h
  pub list : list_of g p ≡ l
  pub filter : (j b : ℕ) → j < g.kept → b < g.bits → slot_bits g p j b ≡ bits j b
  pub buffer : (q : ℕ) → q < g.pages → buffer_of g p q ≡ bs q

-- a partition is laid out as it is
pub laid : (g : Geometry) (p : List ℕ) → length p ≡ stride g → Laid g p (head_of p) (list_of g p) (slot_bits g p) (buffer_of g p)
laid g p h = record { long = h; head = refl; list = refl; filter = λ j b lj lb. refl; buffer = λ q l. refl }

laid_same : {g : Geometry} {p : List ℕ} {h : Head} {l : List ℕ} {bits : ℕ → ℕ → Bool} {bs bs' : ℕ → List ℕ} → Laid g p h l bits bs
    → ((q : ℕ) → q < g.pages → bs q ≡ bs' q) → Laid g p h l bits bs'
laid_same at e = record {
  long = at.long;
  head = at.head;
  list = at.list;
  filter = at.filter;
  buffer = λ q m. at.buffer q m ∙ e q m;
}

module _ (g : Geometry) (ok : allowed g ≡ true) where
  -- where the parts end
  pub list-fits : 16 + 16 * g.list ≤ stride g
  list-fits = omega (arith, buffer-behind-list g 0, buffer-fits g 0 (sizes g ok).pages-min)

  filter-inside : (j : ℕ) → j < g.kept → filter_at g j + filter_size g ≤ stride g
  filter-inside j l = omega (arith, filter-before-buffer g j 0 l, buffer-fits g 0 (sizes g ok).pages-min)

  -- a slot's bits are those of its bytes
  slot-bits : (p : List ℕ) (j b : ℕ) (f : List ℕ) → filter_of g j p ≡ f → slot_bits g p j b ≡ is_set f b
  unfolding slot_bits
  slot-bits p j b f e = ap (λ (x : List ℕ). is_set x b) e

  same_bits : (p p' : List ℕ) (j b : ℕ) → filter_of g j p' ≡ filter_of g j p → slot_bits g p' j b ≡ slot_bits g p j b
  same_bits p p' j b e = slot-bits p' j b (filter_of g j p) e ∙ sym (slot-bits p j b _ refl)

  module _ {p : List ℕ} {h : Head} {l : List ℕ} {bits : ℕ → ℕ → Bool} {bs : ℕ → List ℕ} (at : Laid g p h l bits bs) where
    -- the head changed
    module _ (h' : Head) where
      behind-head : (b n : ℕ) → 16 ≤ b → b + n ≤ stride g → mid b n (with_head h' p) ≡ mid b n p
      unfolding with_head
      behind-head b n low high = mid-ext b b n _ p (omega (arith, length-with_head h' p, at.long)) (omega (arith, at.long))
          (λ i m. get_or-write-out 4 _ 12 _ (b + i) (omega arith) ∙ get_or-write-out 4 _ 8 _ (b + i) (omega arith) ∙ get_or-write-out 4 _ 4 _ (b + i) (omega arith) ∙ get_or-write-out 4 _ 0 p (b + i) (omega arith))

      pub laid-head : HeadWords h' → Laid g (with_head h' p) h' l bits bs
      laid-head words =
          let room = list-fits in
          record {
            long = length-with_head h' p ∙ at.long;
            head = head-back h' p (omega (arith, at.long)) words;
            list = behind-head 16 (16 * g.list) (omega arith) room ∙ at.list;
            filter = λ j b lj lb. same_bits p _ _ b (behind-head _ _ (omega (arith, filter-from g j)) (filter-inside j lj)) ∙ at.filter j b lj lb;
            buffer = λ q m. behind-head _ _ (omega (arith, buffer-behind-list g q)) (buffer-fits g q m) ∙ at.buffer q m;
          }

    -- a part behind the head changed: the list, a filter or a buffer page
    module _ (f : List ℕ → List ℕ) where
      same_head : (a n : ℕ) → 16 ≤ a → head_of (within a n f p) ≡ h
      same_head a n low = rw (word-within-out 4 a n f p 0 (omega arith), word-within-out 4 a n f p 4 (omega arith), word-within-out 4 a n f p 8 (omega arith), word-within-out 4 a n f p 12 (omega arith)) at.head

      elsewhere : (a n b m : ℕ) → b + m ≤ stride g → Apart a n b m → mid b m (within a n f p) ≡ mid b m p
      elsewhere a n b m fits apart = mid-within-out a n f p b m (omega (arith, at.long)) apart

      here : (a n : ℕ) (ys : List ℕ) → a + n ≤ stride g → mid a n p ≡ ys → length (f ys) ≡ n → mid a n (within a n f p) ≡ f ys
      here a n ys fits e k = mid-within a n f p (omega (arith, at.long)) (ap (λ (x : List ℕ). length (f x)) e ∙ k) ∙ ap f e

      pub laid-list : length (f l) ≡ list_size g → Laid g (within list_at (list_size g) f p) h (f l) bits bs
      laid-list k = record {
        long = length-within _ _ f p ∙ at.long;
        head = same_head _ _ (omega arith);
        list = here _ _ l list-fits at.list k;
        filter = λ j b lj lb. same_bits p _ _ b (elsewhere _ _ _ _ (filter-inside j lj) (omega (arith, filter-from g j))) ∙ at.filter j b lj lb;
        buffer = λ q m. elsewhere _ _ _ _ (buffer-fits g q m) (omega (arith, buffer-behind-list g q)) ∙ at.buffer q m;
      }

      pub laid-filter : (j : ℕ) → j < g.kept → length (f (filter_of g j p)) ≡ filter_size g
          → Laid g (within (filter_at g j) (filter_size g) f p) h l (modify j (λ _. is_set (f (filter_of g j p))) bits) bs
      laid-filter j lj k = record {
        long = length-within _ _ f p ∙ at.long;
        head = same_head _ _ (omega (arith, filter-from g j));
        list = elsewhere _ _ _ _ list-fits (omega (arith, filter-from g j)) ∙ at.list;
        filter = λ i b li lb. elim (ℕ_discrete i j) [
          | yes e ↦ rw e (made b ∙ ap (λ (x : ℕ → Bool). x b) (sym (modify-at j _ bits j refl)))
          | no e ↦ same_bits p _ _ b (elsewhere _ _ _ _ (filter-inside i li) (filters-apart g j i (λ x. e (sym x)))) ∙ at.filter i b li lb
              ∙ ap (λ (x : ℕ → Bool). x b) (sym (modify-off j _ bits i e))
        ];
        buffer = λ q m. elsewhere _ _ _ _ (buffer-fits g q m) (omega (arith, filter-before-buffer g j q lj)) ∙ at.buffer q m;
      }
        where
          made : (b : ℕ) → slot_bits g (within (filter_at g j) (filter_size g) f p) j b ≡ is_set (f (filter_of g j p)) b
          made b = slot-bits _ j b _ (here _ _ (filter_of g j p) (filter-inside j lj) refl k)

      pub laid-buffer : (q : ℕ) → q < g.pages → length (f (bs q)) ≡ g.page → Laid g (within (buffer_at g q) g.page f p) h l bits (modify q f bs)
      laid-buffer q lq k = record {
        long = length-within _ _ f p ∙ at.long;
        head = same_head _ _ (omega (arith, buffer-behind-list g q));
        list = elsewhere _ _ _ _ list-fits (omega (arith, buffer-behind-list g q)) ∙ at.list;
        filter = λ j b lj lb. same_bits p _ _ b (elsewhere _ _ _ _ (filter-inside j lj) (omega (arith, filter-before-buffer g j q lj))) ∙ at.filter j b lj lb;
        buffer = λ r m. elim (ℕ_discrete r q) [
          | yes e ↦ rw e (here _ _ (bs q) (buffer-fits g q lq) (at.buffer q lq) k ∙ sym (modify-at q f bs q refl))
          | no e ↦ elsewhere _ _ _ _ (buffer-fits g r m) (buffers-apart g q r (λ x. e (sym x))) ∙ at.buffer r m ∙ sym (modify-off q f bs r e)
        ];
      }

  -- the buffer emptied, page by page
  module _ (t : ℕ) {p : List ℕ} {h : Head} {l : List ℕ} {bits : ℕ → ℕ → Bool} {bs : ℕ → List ℕ} (at : Laid g p h l bits bs)
      (sized : (q : ℕ) → q < g.pages → length (bs q) ≡ g.page) where
    emptied-below : (n : ℕ) → n ≤ g.pages → Laid g (emptied_pages g t n p) h l bits (λ q. cond (ltb q n) (emptied q t (bs q)) (bs q))
    unfolding emptied_pages
    emptied-below zero fits = laid_same at (λ q m. rw (le-ltb q 0 (omega arith)))
    emptied-below (suc n) fits =
        laid_same
        (laid-buffer (emptied-below n (omega arith)) (emptied n t) n fits (simp (le-ltb n n (omega arith)) (length-emptied n t (bs n) ∙ sized n fits)))
        (λ q m. elim (ℕ_discrete q n) [
          | yes e ↦ rw e (modify-at n (emptied n t) _ n refl ∙ simp (le-ltb n n (omega arith), lt-ltb n (suc n) (omega arith)))
          | no e ↦ modify-off n (emptied n t) _ q e ∙ either (ltb q n)
              (λ h. simp (h, lt-ltb q (suc n) (omega (arith, ltb-true, ltb-false))))
              (λ h. simp (h, le-ltb q (suc n) (omega (arith, ltb-true, ltb-false))))
        ])

    pub laid-emptied : Laid g (emptied_pages g t g.pages p) h l bits (λ q. emptied q t (bs q))
    laid-emptied = laid_same (emptied-below g.pages (omega arith)) (λ q m. rw (lt-ltb q g.pages m))

-- ---- one page more, for a loop that empties them
module _ (g : Geometry) (t : ℕ) (p : List ℕ) where
  pub emptied-none : emptied_pages g t 0 p ≡ p
  unfolding emptied_pages
  emptied-none = refl

  pub emptied-next : (q : ℕ) → emptied_pages g t (q + 1) p ≡ within (buffer_at g q) g.page (emptied q t) (emptied_pages g t q p)
  unfolding emptied_pages
  emptied-next q = rw add-one

  pub emptied-turn : (q : ℕ) {part part' : List ℕ} → part ≡ emptied_pages g t q p → part' ≡ within (buffer_at g q) g.page (emptied q t) part → part' ≡ emptied_pages g t (q + 1) p
  emptied-turn q was e = e ∙ rw was (sym (emptied-next q))

  -- pages that are not emptied yet, and what lies in front of them
  pub not-emptied : length p ≡ stride g → (n q : ℕ) → n ≤ q → q < g.pages → buffer_of g (emptied_pages g t n p) q ≡ buffer_of g p q
  unfolding emptied_pages
  not-emptied long zero q l m = refl
  not-emptied long (suc n) q l m =
      mid-within-out _ _ _ (emptied_pages g t n p) _ _ (omega (arith, length-emptied_pages g t n p, buffer-fits g q m, long)) (buffers-apart g n q (λ e. omega arith))
      ∙ not-emptied long n q (omega arith) m

  pub flushes-not-emptied : (n : ℕ) → flushes_of (emptied_pages g t n p) ≡ flushes_of p
  unfolding emptied_pages
  flushes-not-emptied zero = refl
  flushes-not-emptied (suc n) = word-within-out 4 _ _ _ (emptied_pages g t n p) 0 (omega (arith, buffer-behind-list g n)) ∙ flushes-not-emptied n
