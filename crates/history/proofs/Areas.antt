-- Both areas show a table: memory opens with the geometry, and each partition is shown. What one call does to one partition is done to the table.
use Prim.Native.Nat.{ℕ, ◌+◌, ◌≤◌, ◌<◌}
use mathlib.Core.Bool.{true}
use mathlib.Core.Path.{◌≡◌, refl, sym, ◌∙◌}
use mathlib.Core.List.{List}
use Rattle.std.specs.Prelude.{Option}
use native.Mathlib.Omega.{arith}
use native.Mathlib.Decide.{ℕ_discrete}
use lib.ListN.{length}
use Rattle.model.specs.declared.Geometry.{Geometry}
use Rattle.model.specs.Bytes.{mid, within}
use Rattle.model.specs.Geometry.{allowed, partitions, partition_at, stride, memory_need, flash_need, slot_page_at}
use Rattle.model.specs.Opening.{eighth}
use Rattle.model.specs.Partition.{partition, total_of, slot}
use Rattle.model.specs.Answers.{Areas, Refusal}
use Rattle.model.specs.Refusals.{unopened}
use Rattle.model.specs.Calls.{geometry_in}
use Rattle.model.proofs.Parts.{length-within, mid-within, mid-within-out}
use Rattle.model.proofs.Words.{word-within-out}
use Rattle.model.proofs.Sizes.{sizes, partition-from, partition-fits, partitions-apart, slot_lt}
use Rattle.model.proofs.Partitions.{modify, modify-at, modify-off}
use Rattle.model.proofs.Calls.{opens, changed_at}
use Rattle.model.proofs.PartitionsFormat.{opening-kept}
use Rattle.history.proofs.Table.{Part}
use Rattle.history.proofs.Totals.{entries_all}
use Rattle.history.proofs.Shows.{ShowsPart, same-batch-page}

pub record Shows (a : Areas) (g : Geometry) (ps : ℕ → Part) : Type 0 where
  pub ok : allowed g ≡ true
  pub geometry : geometry_in a ≡ g
  pub eighth_zero : eighth a.memory ≡ 0
  pub memory_fits : memory_need g ≤ length a.memory
  pub flash_fits : flash_need g ≤ length a.flash
  pub part : (t : ℕ) → t < partitions g → ShowsPart g t (partition g t a.memory) a.flash (ps t)

-- and each head's total is the number of its partition's entries
abbrev pub AllCounted : Areas → Geometry → (ℕ → Part) → Type 0
AllCounted a g ps = (t : ℕ) → t < partitions g → total_of (partition g t a.memory) ≡ entries_all g (ps t)

-- the checks that every call but format begins with stop nothing
pub shows-opens : (a : Areas) (g : Geometry) (ps : ℕ → Part) → Shows a g ps → (later : Option Refusal) → unopened a later ≡ later
shows-opens a g ps shows = opens a (record {
  long = omega (arith, shows.memory_fits, partition-from g 0, partition-fits g 0 (sizes g shows.ok).partitions-min);
  fine = rw shows.geometry shows.ok;
  eighth_zero = shows.eighth_zero;
  memory_fits = rw shows.geometry shows.memory_fits;
  flash_fits = rw shows.geometry shows.flash_fits;
})

-- another flash whose pages of this partition are the same
pub same-flash : {g : Geometry} {t : ℕ} {p f : List ℕ} {s : Part} (f' : List ℕ) → allowed g ≡ true
    → ((j q : ℕ) → j < g.kept → q < g.pages → mid (slot_page_at g t j q) g.page f' ≡ mid (slot_page_at g t j q) g.page f)
    → ShowsPart g t p f s → ShowsPart g t p f' s
same-flash {g} f' ok same shows = record {
  long = shows.long;
  words = shows.words;
  flushes = shows.flushes;
  live = shows.live;
  list = shows.list;
  buffer = shows.buffer;
  batch = λ n live q l. same-batch-page (same (slot g n) q (slot_lt g ok n) l) refl (shows.batch n live q l);
  filter = shows.filter;
}

-- a partition changed, and its slots
module _ (a : Areas) (g : Geometry) (ps : ℕ → Part) (shows : Shows a g ps) (t : ℕ) (below : t < partitions g)
    (c : List ℕ → List ℕ) (c' : Part → Part) (flash : List ℕ) where
  memory-fits : (u : ℕ) → u < partitions g → partition_at g u + stride g ≤ length a.memory
  memory-fits u l = omega (arith, partition-fits g u l, shows.memory_fits)

  here : length (c (partition g t a.memory)) ≡ stride g → partition g t (within (partition_at g t) (stride g) c a.memory) ≡ c (partition g t a.memory)
  here long = mid-within (partition_at g t) (stride g) c a.memory (memory-fits t below) long

  elsewhere : (u : ℕ) → u < partitions g → (u ≡ t → ⊥) → partition g u (within (partition_at g t) (stride g) c a.memory) ≡ partition g u a.memory
  elsewhere u l e = mid-within-out (partition_at g t) (stride g) c a.memory (partition_at g u) (stride g) (memory-fits u l) (partitions-apart g t u (λ x. e (sym x)))

  -- what holds of the changed partition, and of each other one, holds of each
  pub each-changed : (P : ℕ → List ℕ → Part → Type 0) → length (c (partition g t a.memory)) ≡ stride g → P t (c (partition g t a.memory)) (c' (ps t))
      → ((u : ℕ) → (u ≡ t → ⊥) → u < partitions g → P u (partition g u a.memory) (ps u))
      → (u : ℕ) → u < partitions g → P u (partition g u (within (partition_at g t) (stride g) c a.memory)) (modify t c' ps u)
  each-changed P long now others u l = elim (ℕ_discrete u t) [
    | yes e ↦ rw (e, modify-at t c' ps t refl, here long) now
    | no e ↦ rw (modify-off t c' ps u e, elsewhere u l e) (others u e l)
  ]

  pub shows-changed : length flash ≡ length a.flash
      → ((u j q : ℕ) → (u ≡ t → ⊥) → u < partitions g → j < g.kept → q < g.pages → mid (slot_page_at g u j q) g.page flash ≡ mid (slot_page_at g u j q) g.page a.flash)
      → ShowsPart g t (c (partition g t a.memory)) flash (c' (ps t))
      → Shows (changed_at a g shows.geometry t c flash) g (modify t c' ps)
  shows-changed long same now = record {
    ok = shows.ok;
    geometry = opening-kept (partition_at g t) (stride g) c a.memory (partition-from g t) ∙ shows.geometry;
    eighth_zero = word-within-out 4 (partition_at g t) (stride g) c a.memory 28 (omega (arith, partition-from g t)) ∙ shows.eighth_zero;
    memory_fits = rw length-within shows.memory_fits;
    flash_fits = rw long shows.flash_fits;
    part = each-changed (λ u p s. ShowsPart g u p flash s) now.long now (λ u e l. same-flash flash shows.ok (λ j q. same u j q e l) (shows.part u l));
  }
