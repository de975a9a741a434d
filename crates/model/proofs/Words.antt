-- Laws of `word` and `write`, over the width.
use mathlib.Core.Path.{◌≡◌, refl, sym, ◌∙◌, ap}
use mathlib.Core.List.{List, ◌∷◌, ◌++◌}
use Prim.Native.Nat.{ℕ, zero, suc, ◌+◌, ◌*◌, ◌/◌, ◌%◌, ◌^◌, ◌≤◌, ◌<◌}
use native.Mathlib.Nat.{zero-add, add-zero, suc-add, add_assoc, mul_assoc, one-mul, div-one, mod-one, mod-eq_of_lt, pow-zero, pow-suc, pow-succ', div-div-eq-div-mul, one-le-pow}
use native.Mathlib.Numerals.{add-one}
use native.Mathlib.Omega.{arith}
use lib.ListN.{length, get_or, replicate}
use lib.Seq.{sets, length-sets, drop-cons}
use lib.Arith.{mod-mul}
use Rattle.model.specs.Bytes.{mid, within}
use Rattle.model.specs.Bytes.{word, bytes_of, write}
use Rattle.model.proofs.Parts.{Apart, sets-in, within-set, sets-append, get_or-sets-in, get_or-sets-out, get_or-mid, get_or-within-out}

-- a number is had from its bytes alone
pub word-ext : (n : ℕ) (xs ys : List ℕ) (a b : ℕ) → ((i : ℕ) → i < n → get_or xs (a + i) 0 ≡ get_or ys (b + i) 0) → word n xs a ≡ word n ys b
unfolding word
word-ext zero xs ys a b e = refl
word-ext (suc n) xs ys a b e =
    omega (arith, simp add-zero at (e 0 (omega arith)), word-ext n xs ys (a + 1) (b + 1) (λ i l. let p : a + 1 + i ≡ a + suc i = omega arith in let q : b + 1 + i ≡ b + suc i = omega arith in rw (p, q) (e (suc i) (omega arith))))

pub word-add : (m n : ℕ) (xs : List ℕ) (at : ℕ) → word (m + n) xs at ≡ word m xs at + 256 ^ m * word n xs (at + m)
unfolding word
word-add zero n xs at = rw (zero-add, pow-zero, add-zero, one-mul) (omega arith)
word-add (suc m) n xs at = let q : at + 1 + m ≡ at + suc m = omega arith in rw (suc-add, word-add m n xs (at + 1), pow-succ', q, mul_assoc) (omega arith)

-- a number below 256 ^ n, from bytes
pub word_lt : (n : ℕ) (xs : List ℕ) (at : ℕ) → ((i : ℕ) → get_or xs i 0 < 256) → word n xs at < 256 ^ n
unfolding word
word_lt zero xs at b = omega arith
word_lt (suc n) xs at b = rw pow-succ' (omega (arith, b at, word_lt n xs (at + 1) b))

-- ---- bytes_of
pub length-bytes_of : (n v : ℕ) → length (bytes_of n v) ≡ n
unfolding bytes_of
length-bytes_of zero v = refl
length-bytes_of (suc n) v = ap suc (length-bytes_of n (v / 256))

pub bytes_of-add : (m n v : ℕ) → bytes_of (m + n) v ≡ bytes_of m v ++ bytes_of n (v / 256 ^ m)
unfolding bytes_of
bytes_of-add zero n v = rw (zero-add, pow-zero, div-one)
bytes_of-add (suc m) n v = rw (suc-add, bytes_of-add m n (v / 256), pow-succ', div-div-eq-div-mul)

pub bytes_of_mod : (m v : ℕ) → bytes_of m (v % 256 ^ m) ≡ bytes_of m v
unfolding bytes_of
bytes_of_mod zero v = refl
bytes_of_mod (suc m) v =
    let e : v % 256 ^ suc m ≡ (v / 256 % 256 ^ m) * 256 + v % 256 = rw pow-suc (mod-mul v (one-le-pow m 256 (omega arith)) (omega arith)) in
    let p : v % 256 ^ suc m % 256 ≡ v % 256 = omega arith in
    let q : v % 256 ^ suc m / 256 ≡ v / 256 % 256 ^ m = omega arith in
    rw (p, q, bytes_of_mod m (v / 256))

-- the bytes of a number are those that it was read from
pub bytes_of-word : (n : ℕ) (xs : List ℕ) (at : ℕ) → ((i : ℕ) → get_or xs i 0 < 256) → at + n ≤ length xs → bytes_of n (word n xs at) ≡ mid at n xs
unfolding word bytes_of
bytes_of-word zero xs at b l = refl
bytes_of-word (suc n) xs at b l =
    let here = b at in
    let low : (get_or xs at 0 + 256 * word n xs (at + 1)) % 256 ≡ get_or xs at 0 = omega arith in
    let high : (get_or xs at 0 + 256 * word n xs (at + 1)) / 256 ≡ word n xs (at + 1) = omega arith in
    rw (low, high, bytes_of-word n xs (at + 1) b (omega arith), drop-cons xs at 0 (omega arith), add-one)

pub word-bytes_of : (n v : ℕ) → word n (bytes_of n v) 0 ≡ v % 256 ^ n
unfolding word bytes_of
word-bytes_of zero v = rw (pow-zero, mod-one)
word-bytes_of (suc n) v =
    let w : word n ((v % 256) ∷ bytes_of n (v / 256)) (0 + 1) ≡ word n (bytes_of n (v / 256)) 0 = word-ext n ((v % 256) ∷ bytes_of n (v / 256)) (bytes_of n (v / 256)) (0 + 1) 0 (λ i l. rw (suc-add, zero-add)) in
    rw (w, word-bytes_of n (v / 256), pow-suc, mod-mul v {c = 256} (one-le-pow n 256 (omega arith)) (omega arith)) (omega arith)

-- ---- write
pub length-write : (n v at : ℕ) (xs : List ℕ) → length (write n v at xs) ≡ length xs
unfolding write
length-write n v at xs = length-sets xs at (bytes_of n v)

pub write-add : (m n v at : ℕ) (xs : List ℕ) → write (m + n) v at xs ≡ write n (v / 256 ^ m) (at + m) (write m (v % 256 ^ m) at xs)
unfolding write
write-add m n v at xs = rw (bytes_of-add, sets-append, length-bytes_of, bytes_of_mod)

pub get_or-write-out : (n v at : ℕ) (xs : List ℕ) (i : ℕ) → (at ≤ i → i < at + n → ⊥) → get_or (write n v at xs) i 0 ≡ get_or xs i 0
unfolding write
get_or-write-out n v at xs i h = get_or-sets-out (bytes_of n v) xs at i (rw length-bytes_of h)

-- what was written is read back
pub word_write : (n v at : ℕ) (xs : List ℕ) → at + n ≤ length xs → v < 256 ^ n → word n (write n v at xs) at ≡ v
unfolding write
word_write n v at xs h l =
    word-ext n (sets xs at (bytes_of n v)) (bytes_of n v) at 0 (λ i q. rw zero-add (get_or-sets-in (bytes_of n v) xs at i (rw length-bytes_of q) (rw length-bytes_of h)))
    ∙ word-bytes_of n v ∙ mod-eq_of_lt l

-- a number elsewhere is as it was
pub word-write-out : (m n v at : ℕ) (xs : List ℕ) (b : ℕ) → Apart at n b m → word m (write n v at xs) b ≡ word m xs b
word-write-out m n v at xs b p = word-ext m (write n v at xs) xs b b (λ i l. get_or-write-out n v at xs (b + i) (λ q r. p (b + i) q r (omega arith) (omega arith)))

-- ---- of a part
pub word-mid : (n : ℕ) (xs : List ℕ) (a m j : ℕ) → j + n ≤ m → word n (mid a m xs) j ≡ word n xs (a + j)
word-mid n xs a m j h = word-ext n (mid a m xs) xs j (a + j) (λ i l. rw add_assoc (get_or-mid a m xs (j + i) (omega arith)))

pub word-within-out : (n a m : ℕ) (f : List ℕ → List ℕ) (xs : List ℕ) (b : ℕ) → Apart a m b n → word n (within a m f xs) b ≡ word n xs b
word-within-out n a m f xs b p = word-ext n (within a m f xs) xs b b (λ i l. get_or-within-out a m f xs (b + i) (λ q r. p (b + i) q r (omega arith) (omega arith)))

-- a number write into what was set
pub write-set : (n v a j m : ℕ) (ys xs : List ℕ) → length ys ≡ m → j + n ≤ m → write n v (a + j) (sets xs a ys) ≡ within a m (λ _. write n v j ys) xs
unfolding write
write-set n v a j m ys xs e h = sets-in (bytes_of n v) ys xs a j (rw length-bytes_of (omega arith)) ∙ sym (within-set a m (sets ys j (bytes_of n v)) xs (length-sets ys j (bytes_of n v) ∙ e))

-- ---- of what was set
pub word-sets-out : (n : ℕ) (vs xs : List ℕ) (a b : ℕ) → Apart a (length vs) b n → word n (sets xs a vs) b ≡ word n xs b
word-sets-out n vs xs a b p = word-ext n (sets xs a vs) xs b b (λ i l. get_or-sets-out vs xs a (b + i) (λ q r. p (b + i) q r (omega arith) (omega arith)))

pub word-zero : (n m at : ℕ) → word n (replicate m 0) at ≡ 0
unfolding word
word-zero zero m at = refl
word-zero (suc n) m at = omega (arith, word-zero n m (at + 1), zeros m at)
  where
    zeros : (m i : ℕ) → get_or (replicate {A = ℕ} m 0) i 0 ≡ 0
    zeros zero i = refl
    zeros (suc m) zero = refl
    zeros (suc m) (suc i) = zeros m i
