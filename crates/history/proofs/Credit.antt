-- The counting of pages: each put pays Q, which its entry keeps while it is in the buffer; a put that flushes finds at least E entries there, and spends Q × E.
use Prim.Native.Nat.{ℕ, suc, ◌+◌, ◌*◌, ◌≤◌, ◌<◌}
use mathlib.Core.Path.{◌≡◌, refl, ◌∙◌, ap}
use mathlib.Core.List.{List}
use native.Mathlib.Omega.{arith}
use native.Mathlib.Nat.{mul-le-mul_left}
use lib.ListN.{length}
use Rattle.model.specs.declared.Geometry.{Geometry}
use Rattle.model.specs.Search.{is_some}
use Rattle.model.specs.Geometry.{partitions, capacity}
use Rattle.model.specs.Keys.{page_of}
use Rattle.model.specs.Batch.{sum}
use Rattle.model.proofs.Tests.{either}
use Rattle.model.proofs.Sums.{sum-zero, sum-at, sum-change}
use Rattle.model.proofs.Tables.{Entry, find, store, erase, length-store, length-erase}
use Rattle.model.proofs.Partitions.{modify, modify-at, modify-off}
use Rattle.history.proofs.Table.{Part, flushed, dropped, stored, deleted}

-- the entries in a partition's buffer
abbrev pub entries_in : Geometry → Part → ℕ
entries_in g p = sum g.pages (λ q. length (p.buffer q))

abbrev pub Credit : Geometry → (ℕ → Part) → ℕ → ℕ → Type 0
Credit g ps puts pages = pages * capacity g + g.pages * sum (partitions g) (λ t. entries_in g (ps t)) ≤ g.pages * puts

-- a partition changed: it had `old` entries, and has `new` at most
pub credit-change : (g : Geometry) (ps : ℕ → Part) (t : ℕ) → t < partitions g → (c : Part → Part) (new puts puts' pages pages' : ℕ)
    → entries_in g (c (ps t)) ≤ new
    → Credit g ps puts pages
    → pages' * capacity g + g.pages * new + g.pages * puts ≤ g.pages * puts' + (pages * capacity g + g.pages * entries_in g (ps t))
    → Credit g (modify t c ps) puts' pages'
credit-change g ps t below c new puts puts' pages pages' within old pays =
    let moved = sum-change t (partitions g) (λ u. entries_in g (ps u)) (λ u. entries_in g (modify t c ps u)) below
    (λ u n. ap (entries_in g) (modify-off t c ps u n)) in
    omega (
      arith,
      ap (λ x. g.pages * x) moved,
      mul-le-mul_left g.pages within,
      ap (λ p. g.pages * entries_in g p) (modify-at t c ps t refl),
      old,
      pays,
    )

-- what the calls do to a partition's entries

store-one : (k v : ℕ) (l : List Entry) → length (store k v l) ≤ suc (length l)
store-one k v l = rw length-store (either (is_some (find k l)) (λ h. simp h (omega arith)) (λ h. simp h (omega arith)))

module _ (g : Geometry) (p : Part) where
  pub flushed-entries : entries_in g (flushed g p) ≤ 0
  unfolding flushed
  flushed-entries = omega (arith, sum-zero g.pages)

  pub dropped-entries : entries_in g (dropped p) ≤ entries_in g p
  unfolding dropped
  dropped-entries = omega arith

  module _ (k : ℕ) (inside : page_of g k < g.pages) where
    -- the key's buffer page changed by c
    pub remade-entries : (c : List Entry → List Entry) → sum g.pages (λ q. length (modify (page_of g k) c p.buffer q)) + length (p.buffer (page_of g k))
        ≡ entries_in g p + length (c (p.buffer (page_of g k)))
    remade-entries c =
        sum-change (page_of g k) g.pages (λ q. length (p.buffer q)) (λ q. length (modify (page_of g k) c p.buffer q)) inside
        (λ u n. ap length (modify-off (page_of g k) c p.buffer u n))
        ∙ ap (λ l. entries_in g p + length l) (modify-at (page_of g k) c p.buffer (page_of g k) refl)

    pub stored-entries : (v : ℕ) → entries_in g (stored g k v p) ≤ suc (entries_in g p)
    unfolding stored
    stored-entries v = omega (arith, remade-entries (store k v), store-one k v (p.buffer (page_of g k)))

    pub deleted-entries : entries_in g (deleted g k p) ≤ entries_in g p
    unfolding deleted
    deleted-entries = either (is_some (find k p.list))
        (λ s. simp s (omega arith))
        (λ s. simp s (omega (arith, remade-entries (erase k), length-erase k (p.buffer (page_of g k)))))

    -- the key's page is no fuller than the whole buffer
    pub page-entries : length (p.buffer (page_of g k)) ≤ entries_in g p
    page-entries = sum-at g.pages (λ q. length (p.buffer q)) (page_of g k) inside
