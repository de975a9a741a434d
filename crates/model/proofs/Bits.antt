-- A filter's bits: where a key's lie, what setting one does, and how a loop over them goes.
use mathlib.Core.Bool.{Bool, true, false, not}
use mathlib.Core.List.{List, [], ◌∷◌}
use mathlib.Core.Path.{◌≡◌, refl, sym, ◌∙◌, ap}
use Prim.Native.Nat.{ℕ, zero, suc, ◌+◌, ◌*◌, ◌-◌, ◌/◌, ◌%◌, ◌^◌, ◌≤◌, ◌<◌}
use native.Mathlib.Nat.{sub-zero, pow-suc, mul-le-mul, mod-lt, div_self, div-eq_of_lt}
use native.Mathlib.Decide.{dec_lt, ℕ_discrete}
use native.Mathlib.Numerals.{add-one}
use native.Mathlib.Omega.{arith}
use lib.Dec.{eqb}
use lib.ListN.{length, get_or, set, length-set, length-replicate}
use borrow.Author.Tests.{eq-eqb, ne_eqb}
use lib.Seq.{take_all, get_or-set_same, get_or-set_other}
use lib.Pow.{pow_pos, pow-lt, pow-add, shl-shr, shr_lt}
use lib.Bits.{bit_or, or_shr, or_mod, or_zero_r, or_lt}
use Rattle.model.specs.Bytes.{word, zeros, mid, within}
use Rattle.model.specs.Search.{any_from}
use Rattle.model.specs.Geometry.{allowed, filter_size, filter_at, buffer_at, stride}
use Rattle.model.specs.Page.{count_of}
use Rattle.model.specs.Partition.{buffer_of, slot_bits}
use Rattle.model.specs.Keys.{mixed, first_bit, bit_step, bit_of}
use Rattle.model.specs.Filter.{bit_at, with_bit, passes, with_bits, with_entries, with_pages, filter_for}
use Rattle.model.specs.declared.Geometry.{Geometry}
use Rattle.model.proofs.Parts.{get_or-mid, length-mid, length-within, mid-within-out, sets-mid, within-sets, within-twice}
use Rattle.model.proofs.Words.{word-mid, word-within-out}
use Rattle.model.proofs.Searching.{first-here, first_next, first-end}
use Rattle.model.proofs.Powers.{one_shifted}
use Rattle.model.proofs.Sizes.{sizes, bit_below, buffer-from, buffer-fits, buffer-end}
use Rattle.model.proofs.Lengths.{length-with_bit, length-with_bits, length-with_entries, length-with_pages}

-- ---- one bit
-- bit j of a number with m or-ed in
or-bit : (x j m : ℕ) → bit_or x m / 2 ^ j % 2 ≡ bit_or (x / 2 ^ j % 2) (m / 2 ^ j % 2)
or-bit x j m = rw or_shr (or_mod (x / 2 ^ j) (m / 2 ^ j) 1)

one_bit : (k : ℕ) → 2 ^ k / 2 ^ k % 2 ≡ 1
one_bit k = rw (div_self (pow_pos k))

or-one : (x : ℕ) → x < 2 → bit_or x 1 ≡ 1
or-one zero l = refl
or-one (suc zero) l = refl
or-one (suc (suc x)) l = absurd (omega arith)

-- another bit of 2 ^ k
no-bit : (k j : ℕ) → (j ≡ k → ⊥) → 2 ^ k / 2 ^ j % 2 ≡ 0
no-bit k j h = go (dec_lt k j)
  where
    go : Dec (k < j) → 2 ^ k / 2 ^ j % 2 ≡ 0
    go (yes l) = rw (div-eq_of_lt (pow-lt l))
    go (no l) = let e : k ≡ suc (k - suc j) + j = omega arith in ap (λ (n : ℕ). 2 ^ n / 2 ^ j % 2) e ∙ rw (pow-add, shl-shr, pow-suc) (omega arith)

-- a bit that was set is 1
pub bit-set : (b : ℕ) (f : List ℕ) → b / 8 < length f → bit_at (with_bit b f) b ≡ 1
unfolding with_bit
bit-set b f l = rw (get_or-set_same, l, or-bit, one_bit) (or-one (get_or f (b / 8) 0 / 2 ^ (b % 8) % 2) (omega arith))

-- every other is as it was
pub bit-other : (b c : ℕ) (f : List ℕ) → b / 8 < length f → (c ≡ b → ⊥) → bit_at (with_bit b f) c ≡ bit_at f c
unfolding with_bit
bit-other b c f l h = go (ℕ_discrete (c / 8) (b / 8))
  where
    go : Dec (c / 8 ≡ b / 8) → bit_at (set f (b / 8) (bit_or (get_or f (b / 8) 0) (2 ^ (b % 8)))) c ≡ bit_at f c
    go (yes e) = rw (e, get_or-set_same, l, or-bit, no-bit (b % 8) (c % 8) (omega arith), or_zero_r)
    go (no e) = rw (get_or-set_other f (b / 8) (c / 8) _ 0 e)

-- ---- in a filter that is a part
pub bit-mid : (at n : ℕ) (xs : List ℕ) (b : ℕ) → b / 8 < n → bit_at (mid at n xs) b ≡ get_or xs (at + b / 8) 0 / 2 ^ (b % 8) % 2
bit-mid at n xs b l = rw (get_or-mid at n xs (b / 8) l)

-- the store that sets a bit, as code makes its mask
pub within-bit : (at n : ℕ) (xs : List ℕ) (b : ℕ) → b / 8 < n → at + n ≤ length xs → set xs (at + b / 8) (bit_or (get_or xs (at + b / 8) 0) (1 * 2 ^ (b % 8) % 256)) ≡ within at n (with_bit b) xs
unfolding with_bit
within-bit at n xs b l h =
    let v = bit_or (get_or xs (at + b / 8) 0) (2 ^ (b % 8)) in
    rw (one_shifted 8 (b % 8) (mod-lt b (omega arith)), within-sets at n (with_bit b) xs, get_or-mid at n xs (b / 8) l, take_all n (set (mid at n xs) (b / 8) v) (omega (arith, length-set (mid at n xs) (b / 8) v, length-mid at n xs h)))
    (sym (sets-mid at n (b / 8) xs (v ∷ []) (omega arith) h))

-- ---- bit i of a key, as b
module _ (g : Geometry) (ok : allowed g ≡ true) (x i : ℕ) (one : i < g.hashes) {b : ℕ} (e : b ≡ bit_of g x i) where
  pub bit_byte : b / 8 < filter_size g
  bit_byte = omega (arith, bit_below g ok x i one, (sizes g ok).bits_is)

  -- slot j's bit, by the byte that holds it
  module _ (j : ℕ) (s : List ℕ) where
    slot-bit : slot_bits g s j (bit_of g x i) ≡ eqb (get_or s (filter_at g j + b / 8) 0 / 2 ^ (b % 8) % 2) 1
    unfolding slot_bits
    slot-bit = rw (← e, bit-mid (filter_at g j) (filter_size g) s b bit_byte)

    pub bit-clear : get_or s (filter_at g j + b / 8) 0 / 2 ^ (b % 8) % 2 ≡ 0 → slot_bits g s j (bit_of g x i) ≡ false
    bit-clear z = slot-bit ∙ ne_eqb (get_or s (filter_at g j + b / 8) 0 / 2 ^ (b % 8) % 2) 1 (omega arith)

    pub bit-there : (get_or s (filter_at g j + b / 8) 0 / 2 ^ (b % 8) % 2 ≡ 0 → ⊥) → slot_bits g s j (bit_of g x i) ≡ true
    bit-there n = slot-bit ∙ eq-eqb (get_or s (filter_at g j + b / 8) 0 / 2 ^ (b % 8) % 2) 1 (omega arith)

  -- what a turn does to the invariant `s ≡ within at (filter_size g) (with_bits g x i) s₀`
  pub bit_added : (at : ℕ) (s s₀ : List ℕ) → at + filter_size g ≤ length s₀ → s ≡ within at (filter_size g) (with_bits g x i) s₀ → set s (at + b / 8) (bit_or (get_or s (at + b / 8) 0) (1 * 2 ^ (b % 8) % 256)) ≡ within at (filter_size g) (with_bits g x (i + 1)) s₀
  unfolding with_bits
  bit_added at s s₀ h k =
      let n = filter_size g in
      let l = length-with_bits g x i (mid at n s₀) ∙ length-mid at n s₀ h in
      within-bit at n s b bit_byte (rw (k, length-within) h)
      ∙ rw (k, e, add-one) (within-twice at n (with_bits g x i) (with_bit (bit_of g x i)) s₀ h l (length-with_bit (bit_of g x i) (with_bits g x i (mid at n s₀)) ∙ l))

-- where it is, before the remainder
pub bit-room : (g : Geometry) → allowed g ≡ true → (x i : ℕ) → x < 2 ^ 64 → i < g.hashes → first_bit x + i * bit_step x < 2 ^ 36
bit-room g ok x i l h =
    let z = sizes g ok in
    let d = or_lt 32 (x / 2 ^ 32) 1 (shr_lt 32 32 l) (omega arith) in
    omega (arith, mul-le-mul {n₁ = i} {m₁ = bit_step x} {n₂ = 8} {m₂ = 4294967296} (omega arith) (omega arith))

-- ---- a search for a bit of a key that is not set: the answer still to give at bit i
module _ (g : Geometry) (x : ℕ) (bits : ℕ → Bool) where
  abbrev missing : ℕ → Bool
  missing j = not (bits (bit_of g x j))

  pub passes_from : ℕ → Bool
  passes_from i = not (any_from (g.hashes - i) i missing)

  pub pass_all : passes g x bits ≡ passes_from 0
  unfolding passes passes_from
  pass_all = rw sub-zero

  module _ (i : ℕ) where
    pub pass-miss : i < g.hashes → bits (bit_of g x i) ≡ false → passes_from i ≡ false
    unfolding passes_from
    pass-miss l e = rw (first-here missing g.hashes i l (rw e))

    pub pass-next : i < g.hashes → bits (bit_of g x i) ≡ true → passes_from i ≡ passes_from (i + 1)
    unfolding passes_from
    pass-next l e = rw (first_next missing g.hashes i l (rw e))

    pub pass-end : g.hashes ≤ i → passes_from i ≡ true
    unfolding passes_from
    pass-end l = rw (first-end missing g.hashes i l)

-- the pages below q are all that counts
pub with_pages-ext : (g : Geometry) (page page' : ℕ → List ℕ) (q : ℕ) (f : List ℕ) → ((r : ℕ) → r < q → page r ≡ page' r) → with_pages g page q f ≡ with_pages g page' q f
unfolding with_pages
with_pages-ext g page page' zero f h = refl
with_pages-ext g page page' (suc q) f h = rw (h q (omega arith), with_pages-ext g page page' q f (λ r l. h r (omega arith)))

-- ---- what a turn of the loops over entries and pages does to their invariants, for a filter `at` in front of what is read
module _ (g : Geometry) (at : ℕ) (s s₀ : List ℕ) where
  -- one more entry of the page from a on
  pub entry-added : (a i : ℕ) → at + filter_size g ≤ a → a + g.page ≤ length s₀ → 16 * (i + 1) + 8 ≤ g.page → s ≡ within at (filter_size g) (with_entries g (mid a g.page s₀) i) s₀
      → {key x : ℕ} {s' : List ℕ} → key ≡ word 8 s (a + 16 * (i + 1)) → x ≡ mixed key → s' ≡ within at (filter_size g) (with_bits g x g.hashes) s → s' ≡ within at (filter_size g) (with_entries g (mid a g.page s₀) (i + 1)) s₀
  unfolding with_entries
  entry-added a i h k r e ek ex e' =
      let n = filter_size g in
      let p = mid a g.page s₀ in
      let same : word 8 s (a + 16 * (i + 1)) ≡ word 8 p (16 * (i + 1)) = rw e (word-within-out 8 at n (with_entries g p i) s₀ (a + 16 * (i + 1)) (omega arith)) ∙ sym (word-mid 8 s₀ a g.page (16 * (i + 1)) r) in
      let l = length-with_entries g p i (mid at n s₀) ∙ length-mid at n s₀ (omega arith) in
      e' ∙ rw (ex, ek, same, e)
      (within-twice at n (with_entries g p i) (with_bits g (mixed (word 8 p (16 * (i + 1)))) g.hashes) s₀ (omega arith) l (length-with_bits g (mixed (word 8 p (16 * (i + 1)))) g.hashes (with_entries g p i (mid at n s₀)) ∙ l)
      ∙ ap (λ (m : ℕ). within at n (with_entries g p m) s₀) (sym (add-one i)))

  -- a buffer page is as it was
  pub buffer-kept : (f : List ℕ → List ℕ) (q : ℕ) → at + filter_size g ≤ buffer_at g q → buffer_at g q + g.page ≤ length s₀ → s ≡ within at (filter_size g) f s₀ → buffer_of g s q ≡ buffer_of g s₀ q
  buffer-kept f q h k e = rw e (mid-within-out at (filter_size g) f s₀ (buffer_at g q) g.page k (omega arith))

  -- one more page of the buffer
  pub page-added : (q : ℕ) → at + filter_size g ≤ buffer_at g q → buffer_at g q + g.page ≤ length s₀ → s ≡ within at (filter_size g) (with_pages g (buffer_of g s₀) q) s₀
      → {b : ℕ} {s' : List ℕ} → b ≡ buffer_at g q → s' ≡ within at (filter_size g) (with_entries g (mid b g.page s) (count_of (mid b g.page s))) s → s' ≡ within at (filter_size g) (with_pages g (buffer_of g s₀) (q + 1)) s₀
  unfolding with_pages
  page-added q h k e eb e' =
      let n = filter_size g in
      let p = buffer_of g s₀ q in
      let f = with_pages g (buffer_of g s₀) q in
      let l = length-with_pages g (buffer_of g s₀) q (mid at n s₀) ∙ length-mid at n s₀ (omega arith) in
      e' ∙ rw (eb, buffer-kept f q h k e, e, add-one)
      (within-twice at n f (with_entries g p (count_of p)) s₀ (omega arith) l (length-with_entries g p (count_of p) (f (mid at n s₀)) ∙ l))

  -- all pages, in a filter that was made zero
  pub pages-added : at + filter_size g ≤ buffer_at g 0 → stride g ≤ length s₀ → s ≡ within at (filter_size g) (λ _. zeros (filter_size g)) s₀ → within at (filter_size g) (with_pages g (buffer_of g s) g.pages) s ≡ within at (filter_size g) (λ _. filter_for g (buffer_of g s₀)) s₀
  unfolding filter_for
  pages-added h k e =
      let n = filter_size g in
      let f = with_pages g (buffer_of g s) g.pages in
      let l = length-replicate {A = ℕ} n 0 in
      ap (within at n f) e
      ∙ within-twice at n (λ _. zeros n) f s₀ (omega (arith, buffer-end g)) l (length-with_pages g (buffer_of g s) g.pages (zeros n) ∙ l)
      ∙ ap (λ (ys : List ℕ). within at n (λ _. ys) s₀)
      (with_pages-ext g (buffer_of g s) (buffer_of g s₀) g.pages (zeros n) (λ q r. buffer-kept (λ _. zeros n) q (omega (arith, buffer-from g q)) (omega (arith, buffer-fits g q r)) e))
