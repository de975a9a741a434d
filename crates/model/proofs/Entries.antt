-- The entries that stand in records of bytes, and what each change of a page does to them.
use mathlib.Core.Path.{◌≡◌, refl, sym, ◌∙◌, ap, ap₂}
use mathlib.Core.Bool.{Bool, false, cond}
use mathlib.Core.List.{List, [], ◌∷◌, ◌++◌, append-nil}
use Rattle.std.specs.Prelude.{Option, None, Some}
use Prim.Native.Nat.{ℕ, zero, suc, ◌+◌, ◌-◌, ◌*◌, ◌^◌, ◌≤◌, ◌<◌}
use native.Mathlib.Nat.{zero-add, add-zero, add_assoc, suc-add}
use native.Mathlib.Omega.{arith}
use lib.Dec.{eqb}
use lib.ListN.{length, get_or, length-append, length-replicate, get_or-append}
use lib.Seq.{sets, get_or-append-add}
use borrow.Author.Tests.{eqb-true, eqb-false, eq-eqb, ne_eqb}
use Rattle.model.specs.Bytes.{word, write, mid, zeros}
use Rattle.model.specs.Search.{first_from}
use Rattle.model.specs.Records.{key_at, first_record, staying, staying_bytes, closed_up}
use Rattle.model.specs.Page.{count_of, searched, appended, replaced, removed, stored_at, stored, removed_at, without, emptied, numbered}
use Rattle.model.proofs.Parts.{Apart, get_or-sets-in, get_or-mid}
use Rattle.model.proofs.Words.{word-ext, length-write, get_or-write-out, word_write, word-write-out, word-zero}
use Rattle.model.proofs.Searching.{first-at}
use Rattle.model.proofs.Closing.{staying-le, length-staying_bytes, length-closed_up, word-closed_up-out, staying-one}
use Rattle.model.proofs.Tests.{either}
use Rattle.model.proofs.Tables.{Entry, find, store, erase, store-new, erase-none}

-- record i: its key, and the number of w bytes behind the key
abbrev pub entry_at : ℕ → List ℕ → ℕ → Entry
entry_at w xs i = record { key = key_at xs i; val = word w xs (16 * i + 8) }

-- the n records from a on
unfoldable pub entries_from : ℕ → ℕ → ℕ → List ℕ → List Entry
entries_from w zero a xs = []
entries_from w (suc n) a xs = entry_at w xs a ∷ entries_from w n (a + 1) xs

abbrev pub page_entries : List ℕ → List Entry
page_entries p = entries_from 8 (count_of p) 1 p

-- what the record that a search finds holds
abbrev pub held_at : ℕ → List ℕ → Option ℕ → Option ℕ
held_at w xs None = None
held_at w xs (Some i) = Some (word w xs (16 * i + 8))

-- the entries of those of the n records from a on that stay
unfoldable pub remaining : ℕ → (ℕ → Bool) → ℕ → ℕ → List ℕ → List Entry
remaining w gone zero a xs = []
remaining w gone (suc n) a xs = cond (gone a) (remaining w gone n (a + 1) xs) (entry_at w xs a ∷ remaining w gone n (a + 1) xs)

eqb_comm : (a b : ℕ) → eqb a b ≡ eqb b a
eqb_comm a b = either (eqb b a) (λ h. rw h (eq-eqb a b (sym (eqb-true b a h)))) (λ h. rw h (ne_eqb a b (λ e. eqb-false b a h (sym e))))

-- ---- the bytes of records that close up
long-closed : (gone : ℕ → Bool) (n a : ℕ) (xs : List ℕ) → 16 * (a + n) ≤ length xs → length (staying_bytes gone n a xs ++ zeros (16 * (n - staying gone n a))) ≡ 16 * n
long-closed gone n a xs h = simp (length-append, length-replicate) (omega (arith, length-staying_bytes gone n a xs h, staying-le gone n a))

-- ---- records, over the width
pub length-entries_from : (w n a : ℕ) (xs : List ℕ) → length (entries_from w n a xs) ≡ n
unfolding entries_from
length-entries_from w zero a xs = refl
length-entries_from w (suc n) a xs = ap suc (length-entries_from w n (a + 1) xs)

pub entries-last : (w n a : ℕ) (xs : List ℕ) → entries_from w (n + 1) a xs ≡ entries_from w n a xs ++ (entry_at w xs (a + n) ∷ [])
unfolding entries_from
entries-last w zero a xs = rw add-zero
entries-last w (suc n) a xs = let e : a + 1 + n ≡ a + suc n = omega arith in rw (suc-add, entries-last w n (a + 1) xs, e)

-- what the first record with the key holds
pub find-entries : (k w n a : ℕ) (xs : List ℕ) → find k (entries_from w n a xs) ≡ held_at w xs (first_record k n a xs)
unfolding find entries_from first_from
find-entries k w zero a xs = refl
find-entries k w (suc n) a xs =
    rw (eqb_comm k (key_at xs a)) (either (eqb (key_at xs a) k) (λ h. simp h) (λ h. simp (h, find-entries k w n (a + 1) xs)))

-- ---- the entries of records that stay: with one more record
remaining-last : (w : ℕ) (gone : ℕ → Bool) (n a : ℕ) (xs : List ℕ) → remaining w gone (suc n) a xs ≡ remaining w gone n a xs ++ cond (gone (a + n)) [] (entry_at w xs (a + n) ∷ [])
unfolding remaining
remaining-last w gone zero a xs = rw add-zero
remaining-last w gone (suc n) a xs =
    let e : a + 1 + n ≡ a + suc n = omega arith in
    let r = rw e at (remaining-last w gone n (a + 1) xs) in
    either (gone a) (λ t. simp t r) (λ t. simp t (ap (λ (l : List Entry). entry_at w xs a ∷ l) r))

-- where none goes, all stay
remaining-all : (w : ℕ) (gone : ℕ → Bool) (n a : ℕ) (xs : List ℕ) → ((i : ℕ) → a ≤ i → i < a + n → gone i ≡ false) → remaining w gone n a xs ≡ entries_from w n a xs
unfolding remaining entries_from
remaining-all w gone zero a xs h = refl
remaining-all w gone (suc n) a xs h = rw (h a (omega arith) (omega arith), remaining-all w gone n (a + 1) xs (λ i p q. h i (omega arith) (omega arith)))

-- where the first record with the key goes
pub remaining-first : (w k i n a : ℕ) (xs : List ℕ) → first_record k n a xs ≡ Some i → remaining w (eqb i) n a xs ≡ erase k (entries_from w n a xs)
unfolding remaining entries_from first_from erase
remaining-first w k i zero a xs e = cc
remaining-first w k i (suc n) a xs e =
    rw (eqb_comm k (key_at xs a))
    (either (eqb (key_at xs a) k)
    (λ t. let f : Some a ≡ Some i = simp t at e in let d : a ≡ i = cc in simp (t, eq-eqb i a (sym d)) (remaining-all w (eqb i) n (a + 1) xs (λ j p q. ne_eqb i j (omega arith))))
    (λ t.
    let f : first_record k n (a + 1) xs ≡ Some i = simp t at e in
    let l = first-at (λ j. eqb (key_at xs j) k) n (a + 1) i f in
    simp (t, ne_eqb i a (omega (arith, l.low)), remaining-first w k i n (a + 1) xs f)))

module _ (w : ℕ) (narrow : w ≤ 8) where
  -- entries are had from the bytes of their records alone
  pub entry-ext : (xs ys : List ℕ) (i j : ℕ) → ((b : ℕ) → b < 8 + w → get_or xs (16 * i + b) 0 ≡ get_or ys (16 * j + b) 0) → entry_at w xs i ≡ entry_at w ys j
  entry-ext xs ys i j e =
      cc (word-ext 8 xs ys (16 * i) (16 * j) (λ b l. e b (omega arith)), word-ext w xs ys (16 * i + 8) (16 * j + 8) (λ b l. rw (add_assoc, add_assoc) (e (8 + b) (omega arith))))

  pub entries-ext : (n : ℕ) (xs ys : List ℕ) (a c : ℕ) → ((b : ℕ) → b < 16 * n → get_or xs (16 * a + b) 0 ≡ get_or ys (16 * c + b) 0) → entries_from w n a xs ≡ entries_from w n c ys
  unfolding entries_from
  entries-ext zero xs ys a c e = refl
  entries-ext (suc n) xs ys a c e =
      ap₂ (λ (x : Entry) (r : List Entry). x ∷ r) (entry-ext xs ys a c (λ b l. e b (omega arith)))
      (entries-ext n xs ys (a + 1) (c + 1)
      (λ b l. let p : 16 * (a + 1) + b ≡ 16 * a + (16 + b) = omega arith in let q : 16 * (c + 1) + b ≡ 16 * c + (16 + b) = omega arith in rw (p, q) (e (16 + b) (omega arith))))

  pub entries-write-out : (m v at n a : ℕ) (xs : List ℕ) → Apart at m (16 * a) (16 * n) → entries_from w n a (write m v at xs) ≡ entries_from w n a xs
  entries-write-out m v at n a xs h =
      entries-ext n (write m v at xs) xs a a (λ b l. get_or-write-out m v at xs (16 * a + b) (λ p q. h (16 * a + b) p q (omega arith) (omega arith)))

  pub entry-write-out : (m v at i : ℕ) (xs : List ℕ) → Apart at m (16 * i) (8 + w) → entry_at w (write m v at xs) i ≡ entry_at w xs i
  entry-write-out m v at i xs h = entry-ext (write m v at xs) xs i i (λ b l. get_or-write-out m v at xs (16 * i + b) (λ p q. h (16 * i + b) p q (omega arith) (omega arith)))

  entry-write : (v i : ℕ) (xs : List ℕ) → v < 256 ^ w → 16 * i + 16 ≤ length xs → entry_at w (write w v (16 * i + 8) xs) i ≡ record { key = key_at xs i; val = v }
  entry-write v i xs s h = cc (word-write-out 8 w v (16 * i + 8) xs (16 * i) (omega arith), word_write w v (16 * i + 8) xs (omega arith) s)

  -- a value written into the first record with the key
  pub store-first : (k v i n a : ℕ) (xs : List ℕ) → v < 256 ^ w → 16 * (a + n) ≤ length xs → first_record k n a xs ≡ Some i → store k v (entries_from w n a xs) ≡ entries_from w n a (write w v (16 * i + 8) xs)
  unfolding store entries_from first_from
  store-first k v i zero a xs s h e = cc
  store-first k v i (suc n) a xs s h e =
      rw (eqb_comm k (key_at xs a))
      (either (eqb (key_at xs a) k)
      (λ t.
      let f : Some a ≡ Some i = simp t at e in
      let d : a ≡ i = cc in
      simp (t, ← d) (cc (entry-write v a xs s (omega arith), eqb-true (key_at xs a) k t, entries-write-out w v (16 * a + 8) n (a + 1) xs (omega arith))))
      (λ t.
      let f : first_record k n (a + 1) xs ≡ Some i = simp t at e in
      let l = first-at (λ j. eqb (key_at xs j) k) n (a + 1) i f in
      simp (t, store-first k v i n (a + 1) xs s (omega arith) f, entry-write-out w v (16 * i + 8) a xs (omega (arith, l.low)))))

  -- a record set behind the others
  pub entries-added : (k v n a i : ℕ) (xs : List ℕ) → i ≡ a + n → k < 2 ^ 64 → v < 256 ^ w → 16 * i + 16 ≤ length xs → entries_from w (n + 1) a (write w v (16 * i + 8) (write 8 k (16 * i) xs)) ≡ entries_from w n a xs ++ (record { key = k; val = v } ∷ [])
  entries-added k v n a i xs e hk hv h =
      let keyed = write 8 k (16 * i) xs in
      let long : length keyed ≡ length xs = length-write 8 k (16 * i) xs in
      rw (entries-last, ← e, entry-write v i keyed hv (omega arith), word_write 8 k (16 * i) xs (omega arith) hk, entries-write-out w v (16 * i + 8) n a keyed (omega arith), entries-write-out 8 k (16 * i) n a xs (omega arith))

  -- ---- records close up
  module _ (gone : ℕ → Bool) (a : ℕ) (xs : List ℕ) where
    -- a record set behind others
    joined : (m i : ℕ) (bs : List ℕ) → length bs ≡ 16 * m → entries_from w (m + 1) 0 (bs ++ mid (16 * i) 16 xs) ≡ entries_from w m 0 bs ++ (entry_at w xs i ∷ [])
    joined m i bs h =
        entries-last w m 0 (bs ++ mid (16 * i) 16 xs)
        ∙ ap₂ (λ (x : List Entry) (y : Entry). x ++ (y ∷ []))
        (entries-ext m (bs ++ mid (16 * i) 16 xs) bs 0 0 (λ b l. get_or-append bs (mid (16 * i) 16 xs) 0 (16 * 0 + b) (omega arith)))
        (entry-ext (bs ++ mid (16 * i) 16 xs) xs (0 + m) i
        (λ b l. let e : 16 * (0 + m) + b ≡ length bs + b = omega arith in rw e (get_or-append-add bs (mid (16 * i) 16 xs) b 0 ∙ get_or-mid (16 * i) 16 xs b (omega arith))))

    bytes-entries : (n : ℕ) → 16 * (a + n) ≤ length xs → entries_from w (staying gone n a) 0 (staying_bytes gone n a xs) ≡ remaining w gone n a xs
    unfolding staying staying_bytes entries_from remaining
    bytes-entries zero h = refl
    bytes-entries (suc n) h =
        rw (remaining-last w gone n a xs)
        (either (gone (a + n)) (λ t. simp t (bytes-entries n (omega arith) ∙ sym (append-nil (remaining w gone n a xs))))
        (λ t. simp t (joined (staying gone n a) (a + n) (staying_bytes gone n a xs) (length-staying_bytes gone n a xs (omega arith)) ∙ ap (λ (l : List Entry). l ++ (entry_at w xs (a + n) ∷ [])) (bytes-entries n (omega arith)))))

    pub entries-closed_up : (n : ℕ) → 16 * (a + n) ≤ length xs → entries_from w (staying gone n a) a (closed_up gone n a xs) ≡ remaining w gone n a xs
    unfolding closed_up
    entries-closed_up n h =
        let bs = staying_bytes gone n a xs in
        let zs = zeros (16 * (n - staying gone n a)) in
        entries-ext (staying gone n a) (sets xs (16 * a) (bs ++ zs)) bs a 0
        (λ b l.
        rw zero-add
        (get_or-sets-in (bs ++ zs) xs (16 * a) b (omega (arith, long-closed gone n a xs h, staying-le gone n a)) (omega (arith, long-closed gone n a xs h))
        ∙ get_or-append bs zs 0 b (omega (arith, length-staying_bytes gone n a xs h))))
        ∙ bytes-entries n h

-- ---- a page
pub count_entries : (p : List ℕ) → length (page_entries p) ≡ count_of p
count_entries p = length-entries_from 8 (count_of p) 1 p

-- what a search of the page tells of its entries
pub find-searched : (k : ℕ) (p : List ℕ) → find k (page_entries p) ≡ held_at 8 p (searched k p)
find-searched k p = find-entries k 8 (count_of p) 1 p

module _ (k v : ℕ) (p : List ℕ) where
  head-appended : (m b : ℕ) → 2 ≤ b → b + m ≤ 16 → word m (appended k v p) b ≡ word m p b
  unfolding appended
  head-appended m b l h = word-write-out m 2 _ 0 _ b (omega arith) ∙ word-write-out m 8 v _ _ b (omega arith) ∙ word-write-out m 8 k _ p b (omega arith)

  entries-appended : k < 2 ^ 64 → v < 2 ^ 64 → 32 + 16 * count_of p ≤ length p → length p ≤ 4096 → page_entries (appended k v p) ≡ page_entries p ++ (record { key = k; val = v } ∷ [])
  unfolding appended
  entries-appended hk hv room small =
      let c = count_of p in
      let added = write 8 v (16 * (c + 1) + 8) (write 8 k (16 * (c + 1)) p) in
      let long : length added ≡ length p = simp length-write in
      rw (word_write 2 (c + 1) 0 added (omega arith) (omega arith), entries-write-out 8 (omega arith) 2 (c + 1) 0 (c + 1) 1 added (omega arith))
      (entries-added 8 (omega arith) k v c 1 (c + 1) p (omega arith) hk hv (omega arith))

-- a used entry that a search finds
found-used : (k i : ℕ) (p : List ℕ) → searched k p ≡ Some i → (1 ≤ i) × (i < 1 + count_of p)
found-used k i p e = let f = first-at (λ j. eqb (key_at p j) k) (count_of p) 1 i e in (f.low, f.high)

head-replaced : (i v : ℕ) (p : List ℕ) → 1 ≤ i → (m b : ℕ) → b + m ≤ 16 → word m (replaced i v p) b ≡ word m p b
unfolding replaced
head-replaced i v p l m b h = word-write-out m 8 v (16 * i + 8) p b (omega arith)

entries-replaced : (i v : ℕ) (p : List ℕ) → 1 ≤ i → page_entries (replaced i v p) ≡ entries_from 8 (count_of p) 1 (write 8 v (16 * i + 8) p)
unfolding replaced
entries-replaced i v p l = rw (word-write-out 2 8 v (16 * i + 8) p 0 (omega arith))

head-removed : (i : ℕ) (p : List ℕ) (m b : ℕ) → 2 ≤ b → b + m ≤ 16 → word m (removed i p) b ≡ word m p b
unfolding removed
head-removed i p m b l h = word-write-out m 2 _ 0 _ b (omega arith) ∙ word-closed_up-out (eqb i) (count_of p) 1 p m b (omega arith)

module _ (i : ℕ) (p : List ℕ) (fits : 16 + 16 * count_of p ≤ length p) (small : length p ≤ 4096) where
  count-removed : count_of (removed i p) ≡ count_of p - 1
  unfolding removed
  count-removed = word_write 2 (count_of p - 1) 0 _ (omega (arith, length-closed_up (eqb i) (count_of p) 1 p)) (omega arith)

  entries-removed : (k : ℕ) → searched k p ≡ Some i → page_entries (removed i p) ≡ erase k (page_entries p)
  unfolding removed
  entries-removed k e =
      let c = count_of p in
      let u = found-used k i p e in
      rw (count-removed, entries-write-out 8 (omega arith) 2 (c - 1) 0 (c - 1) 1 (closed_up (eqb i) c 1 p) (omega arith), ← (staying-one i c 1 u.0 u.1), entries-closed_up 8 (omega arith) (eqb i) 1 p c (omega arith))
      (remaining-first 8 k i c 1 p e)

-- ---- a key stored in a page, or taken out of it
pub head-stored : (k v : ℕ) (p : List ℕ) (m b : ℕ) → 2 ≤ b → b + m ≤ 16 → word m (stored k v p) b ≡ word m p b
unfolding stored
head-stored k v p m b l h = go (searched k p) refl
  where
    go : (o : Option ℕ) → searched k p ≡ o → word m (stored_at o k v p) b ≡ word m p b
    go None e = head-appended k v p m b l h
    go (Some i) e = head-replaced i v p (found-used k i p e).0 m b h

module _ (p : List ℕ) (fits : 16 + 16 * count_of p ≤ length p) where
  pub head-without : (k m b : ℕ) → 2 ≤ b → b + m ≤ 16 → word m (without k p) b ≡ word m p b
  unfolding without
  head-without k m b l h = go (searched k p)
    where
      go : (o : Option ℕ) → word m (removed_at o p) b ≡ word m p b
      go None = refl
      go (Some i) = head-removed i p m b l h

  module _ (small : length p ≤ 4096) where
    pub entries-without : (k : ℕ) → page_entries (without k p) ≡ erase k (page_entries p)
    unfolding without
    entries-without k = go (searched k p) refl
      where
        go : (o : Option ℕ) → searched k p ≡ o → page_entries (removed_at o p) ≡ erase k (page_entries p)
        go None e = sym (erase-none k (page_entries p) (find-searched k p ∙ ap (held_at 8 p) e))
        go (Some i) e = entries-removed i p fits small k e

    module _ (k v : ℕ) (hk : k < 2 ^ 64) (hv : v < 2 ^ 64) (room : searched k p ≡ None → 32 + 16 * count_of p ≤ length p) where
      pub entries-stored : page_entries (stored k v p) ≡ store k v (page_entries p)
      unfolding stored
      entries-stored = go (searched k p) refl
        where
          go : (o : Option ℕ) → searched k p ≡ o → page_entries (stored_at o k v p) ≡ store k v (page_entries p)
          go None e = entries-appended k v p hk hv (room e) small ∙ sym (store-new k v (page_entries p) (find-searched k p ∙ ap (held_at 8 p) e))
          go (Some i) e = entries-replaced i v p (found-used k i p e).0 ∙ sym (store-first 8 (omega arith) k v i (count_of p) 1 p hv (omega arith) e)

-- ---- an emptied page
module _ (q t : ℕ) (p : List ℕ) where
  pub count-emptied : count_of (emptied q t p) ≡ 0
  unfolding emptied
  count-emptied = word-write-out 2 2 t 4 _ 0 (omega arith) ∙ word-write-out 2 2 q 2 _ 0 (omega arith) ∙ word-zero 2 (length p) 0

  pub entries-emptied : page_entries (emptied q t p) ≡ []
  unfolding entries_from
  entries-emptied = rw count-emptied

  -- its page number and its partition
  pub numbers-emptied : q < 65536 → t < 65536 → 16 ≤ length p → (word 2 (emptied q t p) 2 ≡ q) × (word 2 (emptied q t p) 4 ≡ t)
  unfolding emptied
  numbers-emptied hq ht h =
      (word-write-out 2 2 t 4 _ 2 (omega arith) ∙ word_write 2 q 2 (zeros (length p)) (rw length-replicate (omega arith)) hq, word_write 2 t 4 _ (simp (length-write, length-replicate) (omega arith)) ht)

  -- and zero behind them
  pub zero-emptied : (m b : ℕ) → 6 ≤ b → word m (emptied q t p) b ≡ 0
  unfolding emptied
  zero-emptied m b l = word-write-out m 2 t 4 _ b (omega arith) ∙ word-write-out m 2 q 2 _ b (omega arith) ∙ word-zero m (length p) b

-- ---- a page with a flush number
module _ (n : ℕ) (p : List ℕ) where
  pub head-numbered : (m b : ℕ) → Apart 8 4 b m → word m (numbered n p) b ≡ word m p b
  unfolding numbered
  head-numbered m b d = word-write-out m 4 n 8 p b d

  pub flush-numbered : n < 2 ^ 32 → 16 ≤ length p → word 4 (numbered n p) 8 ≡ n
  unfolding numbered
  flush-numbered l h = word_write 4 n 8 p (omega arith) l

  pub count-numbered : count_of (numbered n p) ≡ count_of p
  count-numbered = head-numbered 2 0 (omega arith)

  pub entries-numbered : page_entries (numbered n p) ≡ page_entries p
  unfolding numbered
  entries-numbered = rw (word-write-out 2 4 n 8 p 0 (omega arith)) (entries-write-out 8 (omega arith) 4 n 8 (count_of p) 1 p (omega arith))
