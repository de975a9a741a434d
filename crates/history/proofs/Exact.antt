-- While areas and history are in step, every live batch's filter has exactly the bits of the one made of its pages, and every stamp is a live batch.
use Prim.Native.Nat.{ℕ, zero, suc, ◌+◌, ◌*◌, ◌≤◌, ◌<◌}
use mathlib.Core.Bool.{true}
use mathlib.Core.Path.{◌≡◌, refl, sym, ◌∙◌, ap}
use mathlib.Core.List.{List}
use Rattle.std.specs.Prelude.{None, Some}
use native.Mathlib.Omega.{arith}
use native.Mathlib.Decide.{ℕ_discrete}
use lib.Dec.{eqb}
use borrow.Author.Tests.{eqb-true, eq-eqb}
use Rattle.model.specs.declared.Geometry.{Geometry}
use Rattle.model.specs.Bytes.{word}
use Rattle.model.specs.Geometry.{partitions}
use Rattle.model.specs.Records.{key_at}
use Rattle.model.specs.DeleteList.{stamp_at}
use Rattle.model.specs.Filter.{is_set, filter_for}
use Rattle.model.specs.Partition.{partition, head_of, listed_of, list_of, slot, is_live, slot_bits}
use Rattle.model.specs.Answers.{Areas}
use Rattle.model.specs.Batch.{batch_page}
use Rattle.model.specs.Calls.{geometry_in, partition_in}
use Rattle.model.proofs.Tests.{either}
use Rattle.model.proofs.Tables.{find, Distinct}
use Rattle.model.proofs.FilterBits.{set-filter_for}
use Rattle.model.proofs.Passing.{bits-same}
use Rattle.model.proofs.Entries.{entries_from}
use Rattle.model.proofs.ListEntries.{list_entries}
use Rattle.history.specs.History.{History}
use Rattle.history.proofs.Shows.{ShowsPart, live-by-head, live-by-table}
use Rattle.history.proofs.InStep.{InStep}

-- where no key stands twice, a search for a record's key finds that record
find-own : (w n a i : ℕ) (xs : List ℕ) → Distinct (entries_from w n a xs) → a ≤ i → i < a + n → find (key_at xs i) (entries_from w n a xs) ≡ Some (word w xs (16 * i + 8))
unfolding find entries_from
find-own w zero a i xs d low high = absurd (omega arith)
find-own w (suc n) a i xs d low high = elim (ℕ_discrete i a) [
  | yes e ↦ rw (e, eq-eqb (key_at xs a) (key_at xs a) refl)
  | no e ↦
      (let own = find-own w n (a + 1) i xs d.1 (omega arith) (omega arith) in
      either (eqb (key_at xs i) (key_at xs a))
      (λ h. let same : key_at xs i ≡ key_at xs a = eqb-true _ _ h in let twice : find (key_at xs i) (entries_from w n (a + 1) xs) ≡ None = rw same d.0 in cc)
      (λ h. simp h own))
]

module _ (a : Areas) (h : History) (inv : InStep a h) (t : ℕ) (below : t < partitions h.geometry) where
  abbrev g : Geometry
  g = h.geometry

  at : ShowsPart g t (partition g t a.memory) a.flash (inv.table t)
  at = inv.shows.part t below

  pub filters-exact : (n b : ℕ) → is_live (head_of (partition_in a t)) n ≡ true → b < (geometry_in a).bits
      → slot_bits (geometry_in a) (partition_in a t) (slot (geometry_in a) n) b ≡ is_set (filter_for (geometry_in a) (batch_page (geometry_in a) t a.flash n)) b
  filters-exact n b l inside =
      let live = live-by-table at n (rw inv.shows.geometry at l) in
      rw inv.shows.geometry
      (at.filter n b live (rw inv.shows.geometry at inside)
      ∙ sym (bits-same g _ ((inv.table t).batch n) (λ q m. (at.batch n live q m).page.entries) b)
      ∙ sym (set-filter_for g inv.shows.ok b (batch_page g t a.flash n)))

  pub stamps-live : (i : ℕ) → i < listed_of (partition_in a t) → is_live (head_of (partition_in a t)) (stamp_at (list_of (geometry_in a) (partition_in a t)) i) ≡ true
  stamps-live i l =
      let p : List ℕ = partition g t a.memory in
      let l' : i < listed_of p = rw inv.shows.geometry at l in
      let once : Distinct (list_entries (listed_of p) (list_of g p)) = rw at.list (inv.good.core.parts t).once in
      let own = ap (find (key_at (list_of g p) i)) (sym at.list) ∙ find-own 4 (listed_of p) 0 i (list_of g p) once (omega arith) (omega arith) in
      rw inv.shows.geometry (live-by-head at _ ((inv.good.core.parts t).stamps (key_at (list_of g p) i) _ own))
