-- A table's pages and lists without their bytes: lists of entries, what is found in them after a change, and which batches' filters pass a key.
use mathlib.Core.Path.{◌≡◌, refl, sym, ◌∙◌, ap}
use mathlib.Core.Bool.{Bool, true, false, cond, ◌&&◌, ◌||◌}
use mathlib.Core.List.{List, [], ◌∷◌, ◌++◌}
use Rattle.std.specs.Prelude.{Option, None, Some}
use Prim.Native.Nat.{ℕ, zero, suc, ◌≤◌}
use native.Mathlib.Omega.{arith}
use lib.Dec.{eqb}
use lib.ListN.{length}
use borrow.Author.Tests.{eqb-true, eqb-false, eq-eqb, ne_eqb}
use Rattle.model.specs.Search.{is_some}
use Rattle.model.specs.Keys.{mixed, bit_of}
use Rattle.model.specs.Filter.{passes}
use Rattle.model.specs.declared.Geometry.{Geometry}
use Rattle.model.proofs.Tests.{either}

-- a page's entry (key, value), or a list's (key, stamp)
pub record Entry : Type 0 where
  pub key : ℕ
  pub val : ℕ

-- what the first entry with this key holds
unfoldable pub find : ℕ → List Entry → Option ℕ
find k [] = None
find k (e ∷ l) = cond (eqb k e.key) (Some e.val) (find k l)

-- the new value in the first entry with this key; without one, a new last entry
unfoldable pub store : ℕ → ℕ → List Entry → List Entry
store k v [] = record { key = k; val = v } ∷ []
store k v (e ∷ l) = cond (eqb k e.key) (record { key = k; val = v } ∷ l) (e ∷ store k v l)

-- without the first entry with this key
unfoldable pub erase : ℕ → List Entry → List Entry
erase k [] = []
erase k (e ∷ l) = cond (eqb k e.key) l (e ∷ erase k l)

-- without every entry whose number passes the test
unfoldable pub strike : (ℕ → Bool) → List Entry → List Entry
strike test [] = []
strike test (e ∷ l) = cond (test e.val) (strike test l) (e ∷ strike test l)

-- no key twice
abbrev pub Distinct : List Entry → Type 0
Distinct [] = Unit {0}
Distinct (e ∷ l) = (find e.key l ≡ None) × Distinct l

-- what is left of a number that is struck out if it passes the test
abbrev pub unless : (ℕ → Bool) → Option ℕ → Option ℕ
unless test None = None
unless test (Some n) = cond (test n) None (Some n)

-- ---- store
pub find-store-same : (k v : ℕ) (l : List Entry) → find k (store k v l) ≡ Some v
unfolding find store
find-store-same k v [] = rw (eq-eqb k k refl)
find-store-same k v (e ∷ l) = either (eqb k e.key) (λ h. simp (h, eq-eqb k k refl)) (λ h. simp (h, find-store-same k v l))

pub store-new : (k v : ℕ) (l : List Entry) → find k l ≡ None → store k v l ≡ l ++ (record { key = k; val = v } ∷ [])
unfolding find store
store-new k v [] h = refl
store-new k v (e ∷ l) h = either (eqb k e.key) (λ w. let z : Some e.val ≡ None = simp w at h in cc) (λ w. simp (w, store-new k v l (simp w at h)))

pub length-store : (k v : ℕ) (l : List Entry) → length (store k v l) ≡ cond (is_some (find k l)) (length l) (suc (length l))
unfolding find store
length-store k v [] = refl
length-store k v (e ∷ l) =
    either (eqb k e.key) (λ h. simp h)
    (λ h. either (is_some (find k l)) (λ w. simp (h, w, length-store k v l)) (λ w. simp (h, w, length-store k v l)))

-- ---- erase
pub find-erase-same : (k : ℕ) (l : List Entry) → Distinct l → find k (erase k l) ≡ None
unfolding find erase
find-erase-same k [] d = refl
find-erase-same k (e ∷ l) d = either (eqb k e.key) (λ h. simp h (rw (eqb-true k e.key h) d.0)) (λ h. simp (h, find-erase-same k l d.1))

pub erase-none : (k : ℕ) (l : List Entry) → find k l ≡ None → erase k l ≡ l
unfolding find erase
erase-none k [] h = refl
erase-none k (e ∷ l) h = either (eqb k e.key) (λ w. let z : Some e.val ≡ None = simp w at h in cc) (λ w. simp (w, erase-none k l (simp w at h)))

pub length-erase : (k : ℕ) (l : List Entry) → length (erase k l) ≤ length l
unfolding erase
length-erase k [] = omega arith
length-erase k (e ∷ l) = either (eqb k e.key) (λ h. simp h (omega arith)) (λ h. simp h (omega (arith, length-erase k l)))

-- ---- neither changes what another key finds
module _ (j k : ℕ) (apart : j ≡ k → ⊥) where
  pub find-store-other : (v : ℕ) (l : List Entry) → find j (store k v l) ≡ find j l
  unfolding find store
  find-store-other v [] = rw (ne_eqb j k apart)
  find-store-other v (e ∷ l) = either (eqb k e.key) (λ h. simp (h, ne_eqb j k apart, ← (eqb-true k e.key h))) (λ h. simp (h, find-store-other v l))

  pub find-erase-other : (l : List Entry) → find j (erase k l) ≡ find j l
  unfolding find erase
  find-erase-other [] = refl
  find-erase-other (e ∷ l) = either (eqb k e.key) (λ h. simp (h, ne_eqb j k apart, ← (eqb-true k e.key h))) (λ h. simp (h, find-erase-other l))

-- ---- strike
pub find-strike : (test : ℕ → Bool) (k : ℕ) (l : List Entry) → Distinct l → find k (strike test l) ≡ unless test (find k l)
unfolding find strike
find-strike test k [] d = refl
find-strike test k (e ∷ l) d =
    either (eqb k e.key)
    (λ h.
    either (test e.val)
    (λ w. let z : find k l ≡ None = rw (eqb-true k e.key h) d.0 in simp (h, w, find-strike test k l d.1, z))
    (λ w. simp (h, w)))
    (λ h. either (test e.val) (λ w. simp (h, w, find-strike test k l d.1)) (λ w. simp (h, w, find-strike test k l d.1)))

pub length-strike : (test : ℕ → Bool) (l : List Entry) → length (strike test l) ≤ length l
unfolding strike
length-strike test [] = omega arith
length-strike test (e ∷ l) = either (test e.val) (λ h. simp h (omega (arith, length-strike test l))) (λ h. simp h (omega (arith, length-strike test l)))

-- ---- each keeps keys apart
pub distinct-store : (k v : ℕ) (l : List Entry) → Distinct l → Distinct (store k v l)
unfolding find store
distinct-store k v [] d = (refl, tt)
distinct-store k v (e ∷ l) d =
    either (eqb k e.key) (λ h. simp h (rw (eqb-true k e.key h) d.0, d.1))
    (λ h. simp h (find-store-other e.key k (λ q. eqb-false _ _ h (sym q)) v l ∙ d.0, distinct-store k v l d.1))

pub distinct-erase : (k : ℕ) (l : List Entry) → Distinct l → Distinct (erase k l)
unfolding find erase
distinct-erase k [] d = tt
distinct-erase k (e ∷ l) d =
    either (eqb k e.key) (λ h. simp h d.1)
    (λ h. simp h (find-erase-other e.key k (λ q. eqb-false _ _ h (sym q)) l ∙ d.0, distinct-erase k l d.1))

pub distinct-strike : (test : ℕ → Bool) (l : List Entry) → Distinct l → Distinct (strike test l)
unfolding find strike
distinct-strike test [] d = tt
distinct-strike test (e ∷ l) d =
    either (test e.val) (λ h. simp h (distinct-strike test l d.1))
    (λ h. simp h (find-strike test e.key l d.1 ∙ ap (unless test) d.0, distinct-strike test l d.1))

-- ---- tests of a list, and of the numbers below n
unfoldable pub any : {A : Type 0} → (A → Bool) → List A → Bool
any f [] = false
any f (x ∷ l) = f x || any f l

unfoldable pub all : {A : Type 0} → (A → Bool) → List A → Bool
all f [] = true
all f (x ∷ l) = f x && all f l

unfoldable pub any_below : (ℕ → Bool) → ℕ → Bool
any_below f zero = false
any_below f (suc n) = f n || any_below f n

-- ---- filters: the bits of a batch are those of its entries
-- the bits 0 to i − 1 of a mixed key
unfoldable pub bits_below : Geometry → ℕ → ℕ → List ℕ
bits_below g x zero = []
bits_below g x (suc i) = bit_of g x i ∷ bits_below g x i

abbrev pub bits_of : Geometry → ℕ → List ℕ
bits_of g k = bits_below g (mixed k) g.hashes

unfoldable pub has_bit : Geometry → (ℕ → List Entry) → ℕ → Bool
has_bit g pages b = any_below (λ q. any (λ e. any (eqb b) (bits_of g e.key)) (pages q)) g.pages

-- a batch with these pages passes the key
abbrev pub passes_in : Geometry → (ℕ → List Entry) → ℕ → Bool
passes_in g pages k = passes g (mixed k) (has_bit g pages)
