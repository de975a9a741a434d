-- Laws of `mid` and `within`, and of lib's `sets`, element by element.
-- That two ranges lie apart is said of each index, `Apart a m b n`, which `omega arith` proves whichever of the two comes first.
use mathlib.Core.Path.{◌≡◌, refl, sym, ◌∙◌, ap}
use mathlib.Core.Logic.{◌⊎◌, inl, inr, ⊎_elim}
use mathlib.Core.List.{List, [], ◌∷◌, ◌++◌, append_assoc, append-nil}
use Prim.Native.Nat.{ℕ, zero, suc, ◌+◌, ◌-◌, ◌≤◌, ◌<◌}
use native.Mathlib.Nat.{zero-add, add-zero, suc-add, add-suc, add_assoc, add-sub_cancel_left}
use native.Mathlib.Decide.{dec_lt}
use native.Mathlib.Numerals.{add-one}
use native.Mathlib.Omega.{arith}
use lib.ListN.{length, get_or, get_or-eq_default, set, take, drop, length-set, length-take, length-drop, drop_of_length-le}
use lib.Seq.{sets, length-sets, sets-eq, set_comm, set-set, take_all, take-suc, drop-drop, ext_get_or, get_or-take, get_or-drop, get_or-set_same, get_or-set_other, length-take-le}
use borrow.Rule.Slice.PartMut.{put_mid}
use Rattle.model.specs.Bytes.{mid, within}

-- no index is in both of [a, a + m) and [b, b + n)
abbrev pub Apart : ℕ → ℕ → ℕ → ℕ → Type 0
Apart a m b n = (i : ℕ) → a ≤ i → i < a + m → b ≤ i → i < b + n → ⊥

pub lt-or-ge : (m n : ℕ) → (m < n) ⊎ (n ≤ m)
lt-or-ge m n = go (dec_lt m n)
  where
    go : Dec (m < n) → (m < n) ⊎ (n ≤ m)
    go (yes l) = inl l
    go (no l) = inr (omega arith)

-- an index is in [a, a + n), as a + j, or it is not
pub at-or-out : (a n i : ℕ) → ((j : ℕ) × (j < n) × (i ≡ a + j)) ⊎ (a ≤ i → i < a + n → ⊥)
at-or-out a n i = ⊎_elim (λ (l : i < a). inr (omega arith)) (λ (g : a ≤ i). ⊎_elim (λ (l : i < a + n). inl (i - a, omega arith, omega arith)) (λ (h : a + n ≤ i). inr (omega arith)) (lt-or-ge i (a + n))) (lt-or-ge i a)

-- ---- sets
pub get_or-sets-out : (vs xs : List ℕ) (a i : ℕ) → (a ≤ i → i < a + length vs → ⊥) → get_or (sets xs a vs) i 0 ≡ get_or xs i 0
get_or-sets-out [] xs a i h = refl
get_or-sets-out (v ∷ vs) xs a i h = get_or-sets-out vs (set xs a v) (suc a) i (λ p q. h (omega arith) (omega arith)) ∙ get_or-set_other xs a i v 0 (λ e. h (omega arith) (omega arith))

pub get_or-sets-in : (vs xs : List ℕ) (a i : ℕ) → i < length vs → a + length vs ≤ length xs → get_or (sets xs a vs) (a + i) 0 ≡ get_or vs i 0
get_or-sets-in [] xs a i l h = absurd (omega arith)
get_or-sets-in (v ∷ vs) xs a zero l h = get_or-sets-out vs (set xs a v) (suc a) (a + 0) (omega arith) ∙ rw add-zero (get_or-set_same xs a v 0 (omega arith))
get_or-sets-in (v ∷ vs) xs a (suc i) l h = rw (add-suc, ← suc-add) (get_or-sets-in vs (set xs a v) (suc a) i (omega arith) (simp length-set (omega arith)))

pub sets-append : (vs ws xs : List ℕ) (a : ℕ) → sets xs a (vs ++ ws) ≡ sets (sets xs a vs) (a + length vs) ws
sets-append [] ws xs a = rw add-zero
sets-append (v ∷ vs) ws xs a = rw (add-suc, ← suc-add) (sets-append vs ws (set xs a v) (suc a))

-- a loop that stores ys from a on, one element a turn: what a turn does to the invariant `s ≡ sets xs a (take j ys)`, which at j = 0 is `refl`
pub store-more : {s : List ℕ} (xs ys : List ℕ) (a j v : ℕ) → s ≡ sets xs a (take j ys) → j < length ys → v ≡ get_or ys j 0 → set s (a + j) v ≡ sets xs a (take (j + 1) ys)
store-more xs ys a j v h l e = rw (h, e, add-one, take-suc ys j 0, sets-append, length-take-le j ys (omega arith))

-- and what such a loop has not come to yet
pub store-ahead : {s : List ℕ} (xs ys : List ℕ) (a j i : ℕ) → s ≡ sets xs a (take j ys) → a + j ≤ i → get_or s i 0 ≡ get_or xs i 0
store-ahead xs ys a j i h l = rw h (get_or-sets-out (take j ys) xs a i (rw length-take (omega arith)))

-- every element set
pub sets-all : (xs ys : List ℕ) → length ys ≡ length xs → sets xs 0 ys ≡ ys
sets-all xs ys e = rw (sets-eq ys xs 0 (omega arith), zero-add, drop_of_length-le xs {i = length ys} (omega arith)) (append-nil ys)

pub set-sets : (ws xs : List ℕ) (b i v : ℕ) → (b ≤ i → i < b + length ws → ⊥) → set (sets xs b ws) i v ≡ sets (set xs i v) b ws
set-sets [] xs b i v h = refl
set-sets (w ∷ ws) xs b i v h = set-sets ws (set xs b w) (suc b) i v (λ p q. h (omega arith) (omega arith)) ∙ ap (λ (l : List ℕ). sets l (suc b) ws) (set_comm xs b i w v (λ e. h (omega arith) (omega arith)))

set-in : (ys xs : List ℕ) (a j v : ℕ) → j < length ys → set (sets xs a ys) (a + j) v ≡ sets xs a (set ys j v)
set-in [] xs a j v l = absurd (omega arith)
set-in (y ∷ ys) xs a zero v l = rw (add-zero, set-sets ys (set xs a y) (suc a) a v (omega arith), set-set)
set-in (y ∷ ys) xs a (suc j) v l = rw (add-suc, ← suc-add) (set-in ys (set xs a y) (suc a) j v (omega arith))

-- elements set in what was set
pub sets-in : (vs ys xs : List ℕ) (a j : ℕ) → j + length vs ≤ length ys → sets (sets xs a ys) (a + j) vs ≡ sets xs a (sets ys j vs)
sets-in [] ys xs a j h = refl
sets-in (v ∷ vs) ys xs a j h = rw (set-in ys xs a j v (omega arith), ← add-suc) (sets-in vs (set ys j v) xs a (suc j) (simp length-set (omega arith)))

pub sets-comm : (vs ws xs : List ℕ) (a b : ℕ) → Apart a (length vs) b (length ws) → sets (sets xs b ws) a vs ≡ sets (sets xs a vs) b ws
sets-comm [] ws xs a b h = refl
sets-comm (v ∷ vs) ws xs a b h =
    ap (λ (l : List ℕ). sets l (suc a) vs) (set-sets ws xs b a v (λ p q. h a (omega arith) (omega arith) p q))
    ∙ sets-comm vs ws (set xs a v) (suc a) b (λ i p q. h i (omega arith) (omega arith))

-- what is set twice has the last
sets-sets : (vs ws xs : List ℕ) (a : ℕ) → length vs ≤ length ws → a + length ws ≤ length xs → sets (sets xs a vs) a ws ≡ sets xs a ws
sets-sets vs ws xs a h k =
    ext_get_or 0 (sets (sets xs a vs) a ws) (sets xs a ws) (length-sets (sets xs a vs) a ws ∙ length-sets xs a vs ∙ sym (length-sets xs a ws))
    (λ i l. ⊎_elim (λ w. rw w.2 (get_or-sets-in ws (sets xs a vs) a w.0 w.1 (omega (arith, length-sets xs a vs)) ∙ sym (get_or-sets-in ws xs a w.0 w.1 k)))
    (λ o. get_or-sets-out ws (sets xs a vs) a i o ∙ get_or-sets-out vs xs a i (λ p q. o p (omega arith)) ∙ sym (get_or-sets-out ws xs a i o))
    (at-or-out a (length ws) i))

-- ---- mid
pub get_or-mid : (a n : ℕ) (xs : List ℕ) (i : ℕ) → i < n → get_or (mid a n xs) i 0 ≡ get_or xs (a + i) 0
get_or-mid a n xs i l = get_or-take n (drop a xs) i 0 l ∙ get_or-drop a xs i 0

-- a part of bytes is bytes
pub mid-bytes : (a n : ℕ) (xs : List ℕ) → ((i : ℕ) → get_or xs i 0 < 256) → (i : ℕ) → get_or (mid a n xs) i 0 < 256
mid-bytes a n xs bytes i = ⊎_elim (λ (l : i < n). rw (get_or-mid a n xs i l) (bytes (a + i)))
    (λ (l : n ≤ i). rw (get_or-eq_default (mid a n xs) 0 {n = i} (omega (arith, length-take n (drop a xs)))) (omega arith)) (lt-or-ge i n)

pub length-mid : (a n : ℕ) (xs : List ℕ) → a + n ≤ length xs → length (mid a n xs) ≡ n
length-mid a n xs h = length-take-le n (drop a xs) (rw length-drop (omega arith))

-- two parts are equal where the lists have the same elements there
pub mid-ext : (a b n : ℕ) (xs ys : List ℕ) → a + n ≤ length xs → b + n ≤ length ys → ((i : ℕ) → i < n → get_or xs (a + i) 0 ≡ get_or ys (b + i) 0) → mid a n xs ≡ mid b n ys
mid-ext a b n xs ys h k e =
    ext_get_or 0 (mid a n xs) (mid b n ys) (length-mid a n xs h ∙ sym (length-mid b n ys k))
    (λ i l. let l' : i < n = omega (arith, length-mid a n xs h) in get_or-mid a n xs i l' ∙ e i l' ∙ sym (get_or-mid b n ys i l'))

-- ---- within
short : (n : ℕ) (ys : List ℕ) → length (take n ys) ≤ n
short n ys = rw length-take (omega arith)

pub length-within : (a n : ℕ) (f : List ℕ → List ℕ) (xs : List ℕ) → length (within a n f xs) ≡ length xs
unfolding within
length-within a n f xs = length-sets xs a (take n (f (mid a n xs)))

-- as long as what was changed
pub still-long : (a n : ℕ) (f : List ℕ → List ℕ) (xs : List ℕ) {ys : List ℕ} {m : ℕ} → ys ≡ within a n f xs → length xs ≡ m → length ys ≡ m
still-long a n f xs e l = ap length e ∙ length-within a n f xs ∙ l

pub get_or-within-out : (a n : ℕ) (f : List ℕ → List ℕ) (xs : List ℕ) (i : ℕ) → (a ≤ i → i < a + n → ⊥) → get_or (within a n f xs) i 0 ≡ get_or xs i 0
unfolding within
get_or-within-out a n f xs i h = get_or-sets-out (take n (f (mid a n xs))) xs a i (λ p q. h p (omega (arith, short n (f (mid a n xs)))))

module _ (a n : ℕ) (f : List ℕ → List ℕ) (xs : List ℕ) (h : a + n ≤ length xs) (k : length (f (mid a n xs)) ≡ n) where
  all : take n (f (mid a n xs)) ≡ f (mid a n xs)
  all = take_all n (f (mid a n xs)) (omega arith)

  pub get_or-within-in : (i : ℕ) → i < n → get_or (within a n f xs) (a + i) 0 ≡ get_or (f (mid a n xs)) i 0
  unfolding within
  get_or-within-in i l = rw all (get_or-sets-in (f (mid a n xs)) xs a i (omega arith) (omega arith))

  pub mid-within-in : (j m : ℕ) → j + m ≤ n → mid (a + j) m (within a n f xs) ≡ mid j m (f (mid a n xs))
  mid-within-in j m l =
      mid-ext (a + j) j m (within a n f xs) (f (mid a n xs)) (omega (arith, length-within a n f xs)) (omega arith)
      (λ i q. rw add_assoc (get_or-within-in (j + i) (omega arith)))

  pub mid-within : mid a n (within a n f xs) ≡ f (mid a n xs)
  mid-within = simp add-zero at (mid-within-in 0 n (omega arith)) ∙ all

  -- as the borrow checker has a part that is back
  pub put_back : put_mid a n xs (f (mid a n xs)) ≡ within a n f xs
  unfolding within
  put_back = rw (all, sets-eq (f (mid a n xs)) xs a (omega arith), k, drop-drop, append_assoc)

-- ---- a part `&mut s[a..e]` with e = a + n, lent to a callee that does f to it: what the borrow checker has of the whole when the part is back
pub lent : (a n : ℕ) (f : List ℕ → List ℕ) (xs ys : List ℕ) → a + n ≤ length xs → ((p : List ℕ) → length (f p) ≡ length p) → ys ≡ f (mid a (a + n - a) xs) → put_mid a (a + n - a) xs ys ≡ within a n f xs
lent a n f xs ys h k e = rw (e, add-sub_cancel_left a n) (put_back a n f xs h (k (mid a n xs) ∙ length-mid a n xs h))

-- the part has n elements
pub length-lent : (a n : ℕ) (xs : List ℕ) → a + n ≤ length xs → length (mid a (a + n - a) xs) ≡ n
length-lent a n xs h = rw (add-sub_cancel_left a n) (length-mid a n xs h)

pub mid-within-out : (a n : ℕ) (f : List ℕ → List ℕ) (xs : List ℕ) (b m : ℕ) → b + m ≤ length xs → Apart a n b m → mid b m (within a n f xs) ≡ mid b m xs
mid-within-out a n f xs b m h p =
    mid-ext b b m (within a n f xs) xs (omega (arith, length-within a n f xs)) h
    (λ i l. get_or-within-out a n f xs (b + i) (λ q r. p (b + i) q r (omega arith) (omega arith)))

pub within-sets : (a n : ℕ) (f : List ℕ → List ℕ) (xs : List ℕ) → within a n f xs ≡ sets xs a (take n (f (mid a n xs)))
unfolding within
within-sets a n f xs = refl

-- what is done to a part is what matters there alone
pub within_same : (a n : ℕ) (f h : List ℕ → List ℕ) (xs : List ℕ) → f (mid a n xs) ≡ h (mid a n xs) → within a n f xs ≡ within a n h xs
within_same a n f h xs e = within-sets a n f xs ∙ ap (λ (ys : List ℕ). sets xs a (take n ys)) e ∙ sym (within-sets a n h xs)

-- elements set in a part that is put back
pub sets-mid : (a n j : ℕ) (xs vs : List ℕ) → j + length vs ≤ n → a + n ≤ length xs → sets xs a (sets (mid a n xs) j vs) ≡ sets xs (a + j) vs
sets-mid a n j xs vs q k =
    ext_get_or 0 (sets xs a (sets (mid a n xs) j vs)) (sets xs (a + j) vs) (length-sets xs a (sets (mid a n xs) j vs) ∙ sym (length-sets xs (a + j) vs))
    (λ i l. ⊎_elim (λ w. rw w.2 (inside w.0 w.1))
    (λ o. get_or-sets-out (sets (mid a n xs) j vs) xs a i (λ p r. o p (omega (arith, long))) ∙ sym (get_or-sets-out vs xs (a + j) i (λ p r. o (omega arith) (omega arith))))
    (at-or-out a n i))
  where
    long : length (sets (mid a n xs) j vs) ≡ n
    long = length-sets (mid a n xs) j vs ∙ length-mid a n xs k

    inside : (x : ℕ) → x < n → get_or (sets xs a (sets (mid a n xs) j vs)) (a + x) 0 ≡ get_or (sets xs (a + j) vs) (a + x) 0
    inside x l =
        get_or-sets-in (sets (mid a n xs) j vs) xs a x (omega (arith, long)) (omega (arith, long))
        ∙ ⊎_elim (λ w. rw (w.2, ← add_assoc) (get_or-sets-in vs (mid a n xs) j w.0 w.1 (omega (arith, length-mid a n xs k)) ∙ sym (get_or-sets-in vs xs (a + j) w.0 w.1 (omega arith))))
        (λ o. get_or-sets-out vs (mid a n xs) j x o ∙ get_or-mid a n xs x l ∙ sym (get_or-sets-out vs xs (a + j) (a + x) (λ p r. o (omega arith) (omega arith))))
        (at-or-out j (length vs) x)

-- a part that is set whole
pub within-set : (a n : ℕ) (ys xs : List ℕ) → length ys ≡ n → within a n (λ _. ys) xs ≡ sets xs a ys
within-set a n ys xs e = rw (within-sets a n (λ _. ys) xs, take_all n ys (omega arith))

-- a part that stays as it is
pub within-id : (a n : ℕ) (f : List ℕ → List ℕ) (xs : List ℕ) → a + n ≤ length xs → f (mid a n xs) ≡ mid a n xs → within a n f xs ≡ xs
within-id a n f xs h e = rw (within-sets a n f xs, e, take_all n (mid a n xs) (omega (arith, length-mid a n xs h))) (sets-mid a n 0 xs [] (omega arith) h)

-- two changes of one part are one
pub within-twice : (a n : ℕ) (f g : List ℕ → List ℕ) (xs : List ℕ) → a + n ≤ length xs → length (f (mid a n xs)) ≡ n → length (g (f (mid a n xs))) ≡ n → within a n g (within a n f xs) ≡ within a n (λ ys. g (f ys)) xs
within-twice a n f g xs h k q =
    rw (within-sets a n g (within a n f xs), mid-within a n f xs h k, within-sets a n f xs, within-sets a n (λ ys. g (f ys)) xs, take_all n (f (mid a n xs)) (omega arith), take_all n (g (f (mid a n xs))) (omega arith))
    (sets-sets (f (mid a n xs)) (g (f (mid a n xs))) xs a (omega arith) (omega arith))
