-- Laws of `staying`, `staying_bytes` and `closed_up`: what is kept of a run of records, the removal of one record, and a loop that closes up records one after the other.
use mathlib.Core.Path.{◌≡◌, refl, sym, ◌∙◌, ap}
use mathlib.Core.Bool.{Bool, true, false, cond}
use mathlib.Core.List.{List, [], ◌++◌, append_assoc, append-nil}
use Prim.Native.Nat.{ℕ, zero, suc, ◌+◌, ◌-◌, ◌*◌, ◌≤◌, ◌<◌}
use native.Mathlib.Nat.{zero-add, add-zero, add-suc}
use native.Mathlib.Numerals.{add-one}
use native.Mathlib.Omega.{arith}
use borrow.Author.Tests.{eq-eqb, ne_eqb}
use lib.Dec.{eqb}
use lib.ListN.{length, get_or, length-append, length-take, length-replicate}
use lib.Seq.{sets, length-sets, take-add, drop-drop}
use Rattle.model.specs.Bytes.{word, mid, zeros}
use Rattle.model.specs.Records.{staying, staying_bytes, closed_up}
use Rattle.model.proofs.Parts.{Apart, sets-append, sets-mid, length-mid, mid-ext, get_or-sets-out}
use Rattle.model.proofs.Words.{word-ext}

pub mid-add : (a m n : ℕ) (xs : List ℕ) → mid a (m + n) xs ≡ mid a m xs ++ mid (a + m) n xs
mid-add a m n xs = rw (take-add, drop-drop)

-- ---- lengths
pub staying-le : (gone : ℕ → Bool) (n a : ℕ) → staying gone n a ≤ n
unfolding staying
staying-le gone zero a = omega arith
staying-le gone (suc n) a = go (gone (a + n)) (staying-le gone n a)
  where
    go : (b : Bool) → staying gone n a ≤ n → cond b (staying gone n a) (staying gone n a + 1) ≤ suc n
    go true h = omega arith
    go false h = omega arith

pub length-staying_bytes : (gone : ℕ → Bool) (n a : ℕ) (xs : List ℕ) → 16 * (a + n) ≤ length xs → length (staying_bytes gone n a xs) ≡ 16 * staying gone n a
unfolding staying staying_bytes
length-staying_bytes gone zero a xs h = refl
length-staying_bytes gone (suc n) a xs h = go (gone (a + n)) (length-staying_bytes gone n a xs (omega arith))
  where
    go : (b : Bool) → length (staying_bytes gone n a xs) ≡ 16 * staying gone n a → length (cond b (staying_bytes gone n a xs) (staying_bytes gone n a xs ++ mid (16 * (a + n)) 16 xs)) ≡ 16 * cond b (staying gone n a) (staying gone n a + 1)
    go true e = e
    go false e = rw length-append (omega (arith, length-mid (16 * (a + n)) 16 xs (omega arith)))

pub length-closed_up : (gone : ℕ → Bool) (n a : ℕ) (xs : List ℕ) → length (closed_up gone n a xs) ≡ length xs
unfolding closed_up
length-closed_up gone n a xs = length-sets xs (16 * a) (staying_bytes gone n a xs ++ zeros (16 * (n - staying gone n a)))

-- ---- what lies elsewhere is as it was
short : (gone : ℕ → Bool) (n a : ℕ) (xs : List ℕ) → length (staying_bytes gone n a xs) ≤ 16 * staying gone n a
unfolding staying staying_bytes
short gone zero a xs = omega arith
short gone (suc n) a xs = go (gone (a + n)) (short gone n a xs)
  where
    go : (b : Bool) → length (staying_bytes gone n a xs) ≤ 16 * staying gone n a → length (cond b (staying_bytes gone n a xs) (staying_bytes gone n a xs ++ mid (16 * (a + n)) 16 xs)) ≤ 16 * cond b (staying gone n a) (staying gone n a + 1)
    go true e = e
    go false e = rw (length-append, length-take) (omega arith)

module _ (gone : ℕ → Bool) (n a : ℕ) (xs : List ℕ) where
  pub get_or-closed_up-out : (i : ℕ) → (16 * a ≤ i → i < 16 * a + 16 * n → ⊥) → get_or (closed_up gone n a xs) i 0 ≡ get_or xs i 0
  unfolding closed_up
  get_or-closed_up-out i h = get_or-sets-out (staying_bytes gone n a xs ++ zeros (16 * (n - staying gone n a))) xs (16 * a) i (rw (length-append, length-replicate) (λ p q. h p (omega (arith, short gone n a xs, staying-le gone n a))))

  pub word-closed_up-out : (m b : ℕ) → Apart (16 * a) (16 * n) b m → word m (closed_up gone n a xs) b ≡ word m xs b
  word-closed_up-out m b p = word-ext m (closed_up gone n a xs) xs b b (λ i l. get_or-closed_up-out (b + i) (λ q r. p (b + i) q r (omega arith) (omega arith)))

-- ---- one record more
module _ (gone : ℕ → Bool) (n a : ℕ) where
  pub staying-gone : gone (a + n) ≡ true → staying gone (n + 1) a ≡ staying gone n a
  unfolding staying
  staying-gone h = rw (add-one, h)

  pub staying-kept : gone (a + n) ≡ false → staying gone (n + 1) a ≡ staying gone n a + 1
  unfolding staying
  staying-kept h = rw (add-one, h)

  pub bytes-gone : (xs : List ℕ) → gone (a + n) ≡ true → staying_bytes gone (n + 1) a xs ≡ staying_bytes gone n a xs
  unfolding staying_bytes
  bytes-gone xs h = rw (add-one, h)

  pub bytes-kept : (xs : List ℕ) → gone (a + n) ≡ false → staying_bytes gone (n + 1) a xs ≡ staying_bytes gone n a xs ++ mid (16 * (a + n)) 16 xs
  unfolding staying_bytes
  bytes-kept xs h = rw (add-one, h)

-- ---- a run of records that all stay
module _ (gone : ℕ → Bool) (m a : ℕ) where
  pub staying-run : (n : ℕ) → ((k : ℕ) → a + m ≤ k → k < a + (m + n) → gone k ≡ false) → staying gone (m + n) a ≡ staying gone m a + n
  unfolding staying
  staying-run zero h = rw (add-zero, add-zero)
  staying-run (suc n) h = rw (add-suc, h (a + (m + n)) (omega arith) (omega arith)) (omega (arith, staying-run n (λ k p q. h k p (omega arith))))

  pub bytes_run : (n : ℕ) (xs : List ℕ) → ((k : ℕ) → a + m ≤ k → k < a + (m + n) → gone k ≡ false) → staying_bytes gone (m + n) a xs ≡ staying_bytes gone m a xs ++ mid (16 * (a + m)) (16 * n) xs
  unfolding staying_bytes
  bytes_run zero xs h = rw add-zero (sym (append-nil (staying_bytes gone m a xs)))
  bytes_run (suc n) xs h =
      let e : 16 * suc n ≡ 16 * n + 16 = omega arith in
      let p : 16 * (a + (m + n)) ≡ 16 * (a + m) + 16 * n = omega arith in
      rw (add-suc, h (a + (m + n)) (omega arith) (omega arith), bytes_run n xs (λ k p q. h k p (omega arith)), e, mid-add, p, append_assoc)

-- ---- one record leaves
module _ (i n a : ℕ) (low : a ≤ i) (high : i < a + n) where
  -- the records before it, it, and those behind it
  parts : n ≡ i - a + 1 + (a + n - 1 - i)
  parts = omega arith

  before : (k : ℕ) → a + 0 ≤ k → k < a + (0 + (i - a)) → eqb i k ≡ false
  before k p q = ne_eqb i k (omega arith)

  this : eqb i (a + (i - a)) ≡ true
  this = eq-eqb i (a + (i - a)) (omega arith)

  behind : (k : ℕ) → a + (i - a + 1) ≤ k → k < a + (i - a + 1 + (a + n - 1 - i)) → eqb i k ≡ false
  behind k p q = ne_eqb i k (omega arith)

  pub staying-one : staying (eqb i) n a ≡ n - 1
  unfolding staying
  staying-one =
      ap (λ (m : ℕ). staying (eqb i) m a) parts ∙ staying-run (eqb i) (i - a + 1) a (a + n - 1 - i) behind
      ∙ omega (arith, staying-gone (eqb i) (i - a) a this, rw zero-add at (staying-run (eqb i) 0 a (i - a) before))

  pub bytes_one : (xs : List ℕ) → staying_bytes (eqb i) n a xs ≡ mid (16 * a) (16 * (i - a)) xs ++ mid (16 * i + 16) (16 * (a + n - 1 - i)) xs
  unfolding staying_bytes
  bytes_one xs =
      let e : 16 * (a + (i - a + 1)) ≡ 16 * i + 16 = omega arith in
      ap (λ (m : ℕ). staying_bytes (eqb i) m a xs) parts ∙ bytes_run (eqb i) (i - a + 1) a (a + n - 1 - i) xs behind
      ∙ rw (bytes-gone (eqb i) (i - a) a xs this, e, rw (zero-add, add-zero) at (bytes_run (eqb i) 0 a (i - a) xs before))

  -- the later ones move down, and the last place becomes zero
  pub closed_up-one : (xs : List ℕ) → 16 * (a + n) ≤ length xs → closed_up (eqb i) n a xs ≡ sets (sets xs (16 * i) (mid (16 * i + 16) (16 * (a + n - 1 - i)) xs)) (16 * (a + n - 1)) (zeros 16)
  unfolding closed_up
  closed_up-one xs h =
      let z : n - (n - 1) ≡ 1 = omega arith in
      let p : 16 * a + 16 * (i - a) ≡ 16 * i = omega arith in
      let q : 16 * i + 16 * (a + n - 1 - i) ≡ 16 * (a + n - 1) = omega arith in
      rw (staying-one, z, bytes_one xs, append_assoc, sets-append, length-mid (16 * a) (16 * (i - a)) xs (omega arith), p, sets-append, length-mid (16 * i + 16) (16 * (a + n - 1 - i)) xs (omega arith), q, sets-mid (16 * a) (16 * (i - a)) 0 xs [] (omega arith) (omega arith))

-- ---- a loop that closes up xs from record 0 on: after the first n records it has the list s, and t of them stay
pub record Closed (gone : ℕ → Bool) (n : ℕ) (xs s : List ℕ) (t : ℕ) : Type 0 where
  pub stay : t ≡ staying gone n 0
  pub list : s ≡ sets xs 0 (staying_bytes gone n 0 xs)

pub closed_none : (gone : ℕ → Bool) (xs : List ℕ) → Closed gone 0 xs xs 0
unfolding staying staying_bytes
closed_none gone xs = record { stay = refl; list = refl }

module _ {gone : ℕ → Bool} {n : ℕ} {xs s : List ℕ} {t : ℕ} (c : Closed gone n xs s t) where
  pub closed-le : t ≤ n
  closed-le = omega (arith, staying-le gone n 0)

  pub closed-length : length s ≡ length xs
  closed-length = ap length c.list ∙ length-sets xs 0 (staying_bytes gone n 0 xs)

  module _ (h : 16 * n ≤ length xs) where
    long : length (staying_bytes gone n 0 xs) ≡ 16 * t
    long = length-staying_bytes gone n 0 xs (omega arith) ∙ ap (λ (m : ℕ). 16 * m) (sym c.stay)

    -- what it has not come to is as it was
    pub closed-ahead : (i : ℕ) → 16 * n ≤ i → get_or s i 0 ≡ get_or xs i 0
    closed-ahead i l = rw c.list (get_or-sets-out (staying_bytes gone n 0 xs) xs 0 i (λ p q. omega (arith, long, closed-le)))

    pub closed-word : (m b : ℕ) → 16 * n ≤ b → word m s b ≡ word m xs b
    closed-word m b l = word-ext m s xs b b (λ i q. closed-ahead (b + i) (omega arith))

    -- the vacated places become zero
    pub closed-end : sets s (16 * t) (zeros (16 * (n - t))) ≡ closed_up gone n 0 xs
    unfolding closed_up
    closed-end = rw (sets-append, ← c.list, long, zero-add, ← c.stay)

  -- a record that goes is passed over
  pub closed-gone : gone n ≡ true → Closed gone (n + 1) xs s t
  closed-gone e = record { stay = c.stay ∙ sym (staying-gone gone n 0 (rw zero-add e)); list = rw (bytes-gone gone n 0 xs (rw zero-add e)) c.list }

  -- one that stays moves down to the others
  pub closed-kept : gone n ≡ false → 16 * n + 16 ≤ length xs → Closed gone (n + 1) xs (sets s (16 * t) (mid (16 * n) 16 s)) (t + 1)
  closed-kept e h =
      let m : mid (16 * n) 16 s ≡ mid (16 * n) 16 xs = mid-ext (16 * n) (16 * n) 16 s xs (omega (arith, closed-length)) h (λ i q. closed-ahead (omega arith) (16 * n + i) (omega arith)) in
      record {
        stay = omega (arith, staying-kept gone n 0 (rw zero-add e));
        list = rw (m, bytes-kept gone n 0 xs (rw zero-add e), zero-add, sets-append, ← c.list, long (omega arith), zero-add);
      }
