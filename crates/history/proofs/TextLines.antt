-- A line of a partition's text: its key is of that partition, and its value is the position that the history has for it. No page counts more entries than fit it.
use Prim.Native.Nat.{ℕ, ◌+◌, ◌-◌, ◌*◌, ◌/◌, ◌%◌, ◌^◌, ◌≤◌, ◌<◌}
use mathlib.Core.Bool.{true}
use mathlib.Core.Path.{◌≡◌, sym, ◌∙◌, ap}
use mathlib.Core.List.{List}
use Rattle.std.specs.Prelude.{Option, None, Some}
use native.Mathlib.Nat.{mod-lt}
use native.Mathlib.Omega.{arith}
use lib.Arith.{digits_lt}
use lib.Dec.{ltb}
use lib.Pow.{pow_pos, pow-add, split}
use borrow.Author.Tests.{ltb-true}
use Rattle.model.specs.declared.Geometry.{Geometry}
use Rattle.model.specs.Geometry.{allowed, partitions, capacity}
use Rattle.model.specs.Keys.{partition_of, page_of}
use Rattle.model.specs.Records.{key_at}
use Rattle.model.specs.Page.{count_of, value_at}
use Rattle.model.specs.Partition.{partition, head_of, live_of}
use Rattle.model.specs.Answers.{Areas, Place}
use Rattle.model.specs.Get.{sought}
use Rattle.model.specs.PartitionText.{source, source_page, answers_with}
use Rattle.model.specs.Calls.{get}
use Rattle.model.proofs.Sizes.{sizes}
use Rattle.model.proofs.Tests.{either}
use Rattle.model.proofs.Calls.{result-get, reply-accepted}
use Rattle.model.proofs.Answering.{answers_with_lem}
use Rattle.history.specs.History.{Known, History}
use Rattle.history.specs.Claim.{said, value_of}
use Rattle.history.proofs.Totalling.{live-flushed, source-live}
use Rattle.history.proofs.Checking.{get-checks}
use Rattle.history.proofs.InStep.{InStep}
use Rattle.history.proofs.Positions.{IsPosition, Position, AllPositions}
use Rattle.history.proofs.Demand.{says}

-- a key of a partition that there is has 64 bits
pub key_fits : (g : Geometry) → allowed g ≡ true → (k : ℕ) → partition_of g k < partitions g → k < 2 ^ 64
unfolding partition_of
key_fits g ok k below =
    let rest : ℕ = 64 - g.parts in
    let whole : g.parts + rest ≡ 64 = omega (arith, (sizes g ok).parts-max) in
    let cut : k / 2 ^ rest * 2 ^ rest + k % 2 ^ rest < 2 ^ g.parts * 2 ^ rest = digits_lt below (mod-lt k (pow_pos rest)) in
    let all : k < 2 ^ (g.parts + rest) = omega (arith, pow-add 2 g.parts rest, split k rest) in
    rw whole at all

position-of : (o : Option Known) (v : ℕ) → Position o → value_of o ≡ Some v → IsPosition v
position-of None v p e = let z : ◌≡◌ {A = ℕ} 0 1 = cc in absurd (omega arith)
position-of (Some w) v p e = let same : w.value ≡ v = cc in rw (← same) p

-- what a line says
pub record Line (g : Geometry) (t q : ℕ) (values : ℕ → Option ℕ) (k v : ℕ) : Type 0 where
  pub below : k < 2 ^ 64
  pub partition : partition_of g k ≡ t
  pub page : page_of g k ≡ q
  pub position : IsPosition v
  pub value : values k ≡ Some v

module _ (a : Areas) (h : History) (inv : InStep a h) (t : ℕ) (inside : t < partitions h.geometry) where
  abbrev g : Geometry
  g = h.geometry

  abbrev p : List ℕ
  p = partition g t a.memory

  -- a get of a key of the partition says what the history says
  pub sought-says : (k : ℕ) → k < 2 ^ 64 → partition_of g k ≡ t → said (sought g k p a.flash) ≡ Some (value_of (h.keys k))
  sought-says k hk own =
      rw (← own) (ap said (sym (reply-accepted a (get k) (get-checks inv k hk)
      ∙ result-get a g inv.shows.geometry k)) ∙ says a h inv k hk)

  pub line : AllPositions h → (at : Place) (q i : ℕ) → answers_with g t p a.flash at q i ≡ true
      → Line g t q (λ k. value_of (h.keys k)) (key_at (source_page g t p a.flash at q) i) (value_at (source_page g t p a.flash at q) i)
  line positions at q i e =
      let answered = answers_with_lem g t p a.flash (live-flushed g inv.shows.ok t p a.flash (inv.table t) (inv.shows.part t inside) (inv.good.core.parts t)) at q i e in
      let k : ℕ = key_at (source_page g t p a.flash at q) i in
      let v : ℕ = value_at (source_page g t p a.flash at q) i in
      let below : k < 2 ^ 64 = key_fits g inv.shows.ok k (rw answered.partition inside) in
      let both : Some (Some v) ≡ Some (value_of (h.keys k)) = sym (ap said answered.says) ∙ sought-says k below answered.partition in
      let value : value_of (h.keys k) ≡ Some v = cc in
      record { below = below; partition = answered.partition; page = answered.page; position = position-of (h.keys k) v (positions k) value; value = value }

  pub few-lines : (i q : ℕ) → q < g.pages → count_of (source_page g t p a.flash (source (head_of p) i) q) ≤ capacity g
  unfolding source
  few-lines i q l =
      let shown = inv.shows.part t inside in
      either (ltb i (live_of p))
      (λ old. rw old (shown.batch _ (source-live g inv.shows.ok t p a.flash (inv.table t) shown (inv.good.core.parts t) i (ltb-true i _ old)) q l).page.fits)
      (λ new. rw new (shown.buffer q l).fits)
