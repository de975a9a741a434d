-- A filter that is made has exactly the bits of its batch's entries.
use mathlib.Core.Path.{◌≡◌, refl, sym, ◌∙◌, ap}
use mathlib.Core.Bool.{Bool, true, false, ◌||◌, or-true, or-false, or_assoc}
use mathlib.Core.List.{List, [], ◌∷◌, ◌++◌}
use Prim.Native.Nat.{ℕ, zero, suc, ◌+◌, ◌/◌, ◌≤◌, ◌<◌}
use native.Mathlib.Nat.{zero-div}
use native.Mathlib.Numerals.{add-one}
use native.Mathlib.Decide.{ℕ_discrete}
use native.Mathlib.Omega.{arith}
use lib.Dec.{eqb}
use lib.ListN.{length, get_or, replicate, length-replicate}
use borrow.Author.Tests.{eq-eqb, ne_eqb}
use Rattle.model.specs.Bytes.{word, zeros}
use Rattle.model.specs.Keys.{mixed, bit_of}
use Rattle.model.specs.Records.{key_at}
use Rattle.model.specs.Page.{count_of}
use Rattle.model.specs.Geometry.{allowed, filter_size}
use Rattle.model.specs.Filter.{is_set, with_bit, with_bits, with_entries, with_pages, filter_for}
use Rattle.model.specs.declared.Geometry.{Geometry}
use Rattle.model.proofs.Words.{word-zero}
use Rattle.model.proofs.Lengths.{length-with_bits, length-with_entries, length-with_pages}
use Rattle.model.proofs.Bits.{bit-set, bit-other, bit_byte}
use Rattle.model.proofs.Tables.{Entry, any, any_below, bits_below, bits_of, has_bit}
use Rattle.model.proofs.Entries.{entries_from, page_entries, entries-last}

-- the bits of a filter after one was set
pub set-with_bit : (c b : ℕ) (f : List ℕ) → c / 8 < length f → is_set (with_bit c f) b ≡ eqb b c || is_set f b
set-with_bit c b f l = elim (ℕ_discrete b c) [
  | yes e ↦ rw (e, eq-eqb c c refl, bit-set c f l)
  | no n ↦ rw (ne_eqb b c n, bit-other c b f l n)
]

-- and before any was
set-zeros : (m b : ℕ) → is_set (zeros m) b ≡ false
unfolding word
set-zeros m b = let z : get_or (replicate {A = ℕ} m 0) (b / 8) 0 ≡ 0 = omega (arith, word-zero 1 m (b / 8)) in rw (z, zero-div)

any_append : {A : Type 0} (t : A → Bool) (l m : List A) → any t (l ++ m) ≡ any t l || any t m
unfolding any
any_append t [] m = refl
any_append t (x ∷ l) m = rw (any_append t l m) (sym (or_assoc (t x) (any t l) (any t m)))

or_swap : (x y z : Bool) → (x || (y || z)) ≡ (y || x || z)
or_swap true y z = rw or-true
or_swap false y z = rw or-false

-- ---- the bits of a filter that is made
module _ (g : Geometry) (ok : allowed g ≡ true) (b : ℕ) where
  set-with_bits : (x i : ℕ) (f : List ℕ) → i ≤ g.hashes → length f ≡ filter_size g → is_set (with_bits g x i f) b ≡ any (eqb b) (bits_below g x i) || is_set f b
  unfolding with_bits bits_below any
  set-with_bits x zero f l e = refl
  set-with_bits x (suc i) f l e =
      set-with_bit (bit_of g x i) b (with_bits g x i f) (omega (arith, bit_byte g ok x i l refl, length-with_bits g x i f))
      ∙ rw (set-with_bits x i f (omega arith) e) (sym (or_assoc (eqb b (bit_of g x i)) (any (eqb b) (bits_below g x i)) (is_set f b)))

  -- an entry that sets the bit
  abbrev sets_it : Entry → Bool
  sets_it e = any (eqb b) (bits_of g e.key)

  one_more : (p : List ℕ) (i : ℕ) → any sets_it (entries_from 8 (suc i) 1 p) ≡ any sets_it (entries_from 8 i 1 p) || any (eqb b) (bits_of g (key_at p (i + 1)))
  unfolding any
  one_more p i = let e : 1 + i ≡ i + 1 = omega arith in rw (← add-one i, entries-last, any_append, e, or-false)

  set-with_entries : (p : List ℕ) (i : ℕ) (f : List ℕ) → length f ≡ filter_size g → is_set (with_entries g p i f) b ≡ any sets_it (entries_from 8 i 1 p) || is_set f b
  unfolding with_entries entries_from any
  set-with_entries p zero f e = refl
  set-with_entries p (suc i) f e =
      let here = any (eqb b) (bits_of g (key_at p (i + 1))) in
      let before = any sets_it (entries_from 8 i 1 p) in
      set-with_bits (mixed (key_at p (i + 1))) g.hashes (with_entries g p i f) (omega arith) (length-with_entries g p i f ∙ e)
      ∙ ap (λ (t : Bool). here || t) (set-with_entries p i f e) ∙ or_swap here before (is_set f b)
      ∙ ap (λ (t : Bool). t || is_set f b) (sym (one_more p i))

  set-with_pages : (page : ℕ → List ℕ) (q : ℕ) (f : List ℕ) → length f ≡ filter_size g → is_set (with_pages g page q f) b ≡ any_below (λ r. any sets_it (page_entries (page r))) q || is_set f b
  unfolding with_pages any_below
  set-with_pages page zero f e = refl
  set-with_pages page (suc q) f e =
      set-with_entries (page q) (count_of (page q)) (with_pages g page q f) (length-with_pages g page q f ∙ e)
      ∙ rw (set-with_pages page q f e) (sym (or_assoc (any sets_it (page_entries (page q))) (any_below (λ r. any sets_it (page_entries (page r))) q) (is_set f b)))

  pub set-filter_for : (page : ℕ → List ℕ) → is_set (filter_for g page) b ≡ has_bit g (λ q. page_entries (page q)) b
  unfolding filter_for has_bit
  set-filter_for page = set-with_pages page g.pages (zeros (filter_size g)) (length-replicate (filter_size g) 0) ∙ rw (set-zeros (filter_size g) b) (or-false _)
