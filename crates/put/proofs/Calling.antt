-- What the call performs, from the plan and from what was done to the key's partition and to flash.
use Prim.Native.Nat.{ℕ, ◌+◌, ◌≤◌, ◌<◌, ◌^◌}
use mathlib.Core.Bool.{true, false}
use mathlib.Core.List.{List}
use Rattle.std.specs.Prelude.{Result, Ok, Err}
use mathlib.Core.Path.{◌≡◌, sym, ◌∙◌, ap}
use native.Mathlib.Omega.{arith}
use lib.ListN.{length, get_or}
use Rattle.model.specs.declared.Geometry.{Geometry}
use Rattle.model.specs.Answers as model
use Rattle.model.specs.Answers.{done}
use Rattle.model.specs.Bytes.{within}
use Rattle.model.specs.Search.{first_from}
use Rattle.model.specs.Calls.{Call, checks}
use Rattle.model.specs.Flush.{flushed, with_batch}
use Rattle.model.specs.Geometry.{partitions, stride, partition_at}
use Rattle.model.specs.Keys.{partition_of, page_of}
use Rattle.model.specs.Page.{count_of}
use Rattle.model.specs.Partition.{head_of, totalled, total_of, buffer_of, partition}
use Rattle.model.specs.Put.{appends, put_checks, unlisted, buffered, put_in}
use Rattle.model.specs.Refusals.{head_overfull}
use Rattle.model.proofs.Calls.{checks-put, result-put, effect-put}
use Rattle.model.proofs.Checks.{fits-key}
use Rattle.model.proofs.KeyedChecks.{appends-new}
use Rattle.model.proofs.Entries.{count-emptied}
use Rattle.model.proofs.Heads.{HeadWords, fits_after}
use Rattle.model.proofs.Lengths.{length-totalled, length-buffered, length-flushed, length-unlisted}
use Rattle.model.proofs.Parts.{within_same}
use Rattle.model.proofs.PartitionsCalls.{laid-flushed, put-kept, put-flushed}
use Rattle.model.proofs.Totals.{total-flushed}
use Rattle.model.proofs.Sizes.{sizes, partition-of-lt, page-of-lt}
use Rattle.answers.specs.declared.Refusal.{Refusal}
use Rattle.answers.specs.Told.{as_refusal, refusing}
use Rattle.answers.specs.Performs.{areas, Performs}
use Rattle.answers.proofs.Performing as performing
use Rattle.opening.specs.Opened.{IsTable}
use Rattle.partition.specs.Ready.{Whole, Storable, Flushable}
use Rattle.partition.proofs.Lending.{key-whole, partition-words}
use Rattle.partition.proofs.Changing.{changed-there, changed-again}
use Rattle.put.specs.declared.Plan.{Plan}
use Rattle.put.specs.declared.Plan.TheVariants.{Store, Flush}
use Rattle.put.specs.Plans.{plan_for}
use Rattle.put.proofs.Planning as planning
use Rattle.put.proofs.Planning.{Means, plan-means, storable}

-- ---- behind a flush
module _ (g : Geometry) (p : List ℕ) where
  flushed-empty : Whole g p → HeadWords (head_of p) → (t k : ℕ) → Flushable g t p → count_of (buffer_of g (flushed g t p) (page_of g k)) ≡ 0
  flushed-empty w words t k can =
      let l = laid-flushed g w.fine p w.long words t (omega (arith, can.number)) in
      ap (λ (x : List ℕ). count_of x) (l.buffer (page_of g k) (page-of-lt g w.fine k)) ∙ count-emptied (page_of g k) t _

  -- nothing is overfull, and the key's page is empty
  flushed-storable : Whole g p → HeadWords (head_of p) → (t k : ℕ) → Flushable g t p → Storable g k (flushed g t p)
  flushed-storable w words t k can =
      let l = laid-flushed g w.fine p w.long words t (omega (arith, can.number)) in
      let z = sizes g w.fine in
      let empty = flushed-empty w words t k can in
      record {
        fits = fits-key g (flushed g t p) k (ap (head_overfull g) l.head ∙ fits_after g p can.head) (omega (arith, empty));
        room = λ n. omega (arith, empty, z.capacity-min);
      }

  -- so the key is new there
  flushed-new : Whole g p → HeadWords (head_of p) → (t k : ℕ) → Flushable g t p → appends g k (flushed g t p) ≡ 1
  unfolding first_from
  flushed-new w words t k can = appends-new g k (flushed g t p) (rw (flushed-empty w words t k can))

-- memory and flash before the key is stored, what then leaves the total, and the pages written: the areas are as they were, or flushed
pub data Ready (g : Geometry) (m f : List ℕ) (k v : ℕ) (m₁ f₁ : List ℕ) (less pages : ℕ) : Type 0 where
  kept : plan_for g k v (partition g (partition_of g k) m) f ≡ Ok Store → m₁ ≡ m → f₁ ≡ f → less ≡ 0 → pages ≡ 0 → Ready g m f k v m₁ f₁ less pages
  flushed-first : plan_for g k v (partition g (partition_of g k) m) f ≡ Ok (Flush less)
      → m₁ ≡ within (partition_at g (partition_of g k)) (stride g) (flushed g (partition_of g k)) m
      → f₁ ≡ with_batch g (partition_of g k) (partition g (partition_of g k) m) g.pages f → pages ≡ g.pages → Ready g m f k v m₁ f₁ less pages

module _ (g : Geometry) (m f : List ℕ) (table : IsTable g m f) (k : ℕ) where
  abbrev t : ℕ
  t = partition_of g k

  abbrev at : ℕ
  at = partition_at g t

  abbrev own : List ℕ
  own = partition g t m

  pub whole : k < 2 ^ 64 → Whole g own
  whole key = key-whole g m table.fine table.memory_fits k key

  module _ (v : ℕ) where
    -- the key stored, and so many entries less
    abbrev stores-in : ℕ → List ℕ → List ℕ
    stores-in less p = totalled (appends g k p) less (unlisted g k (buffered g k v p))

    checked : checks (areas m f) (Call.put k v) ≡ put_checks g k v own f
    checked = checks-put (areas m f) g table.own table.opens k v

    -- what the plan means for the key's partition
    meant : (plan : Result Plan model.Refusal) → plan_for g k v own f ≡ plan → Means g k v own f plan
    meant plan h = rw h at (plan-means g k v own f)

    pub refuses : (r : Refusal) → Err (as_refusal r) ≡ plan_for g k v own f → Performs (Call.put k v) m f (refusing r) m f
    refuses r h = performing.refusing (Call.put k v) m f (as_refusal r) (checked ∙ meant (Err (as_refusal r)) (sym h))

    -- ---- the key's partition lies in memory, and is flushed there
    module _ (key : k < 2 ^ 64) where
      below : t < partitions g
      below = partition-of-lt g table.fine k key

      module _ (bytes : (i : ℕ) → get_or m i 0 < 256) (less : ℕ) (h : plan_for g k v own f ≡ Ok (Flush less)) where
        words : HeadWords (head_of own)
        words = partition-words g t m bytes

        pub can-flush : Flushable g t own
        can-flush = let w = meant (Ok (Flush less)) h in planning.can-flush g k v own f w.0 w.1 t below words

        -- the partition behind the flush
        behind : (m₁ : List ℕ) → m₁ ≡ within at (stride g) (flushed g t) m → partition g t m₁ ≡ flushed g t own
        behind m₁ e = changed-there g m table.fine table.memory_fits t below (flushed g t) (length-flushed g t) e

        can-store-behind : (m₁ : List ℕ) → m₁ ≡ within at (stride g) (flushed g t) m
            → Storable g k (partition g t m₁) × (less ≤ total_of (partition g t m₁) + appends g k (partition g t m₁))
        can-store-behind m₁ e =
            let w = meant (Ok (Flush less)) h in
            rw (behind m₁ e) (
              flushed-storable g own (whole key) words t k can-flush,
              omega (
                arith,
                w.2,
                planning.can-leave g k v own f w.0 w.1,
                flushed-new g own (whole key) words t k can-flush,
                total-flushed g table.fine own (whole key).long words t (omega (arith, can-flush.number)),
              ),
            )

        flushes : (m₁ f₁ m' : List ℕ) → m₁ ≡ within at (stride g) (flushed g t) m → f₁ ≡ with_batch g t own g.pages f
            → m' ≡ within at (stride g) (stores-in less) m₁ → Performs (Call.put k v) m f (done g.pages) m' f₁
        flushes m₁ f₁ m' e ef e' =
            let w = meant (Ok (Flush less)) h in
            let same : put_in g k v f own ≡ stores-in less (flushed g t own) = put-flushed g k own v f w.1 ∙ rw (flushed-new g own (whole key) words t k can-flush, w.2) in
            let keeps : (p : List ℕ) → length (stores-in less p) ≡ length p = λ p. length-totalled _ less _ ∙ length-unlisted g k _ ∙ length-buffered g k v p in
            let both : m' ≡ within at (stride g) (put_in g k v f) m =
            changed-again g m table.fine table.memory_fits t below (flushed g t) (length-flushed g t) e (stores-in less) keeps e'
            ∙ sym (within_same at (stride g) (put_in g k v f) (λ (p : List ℕ). stores-in less (flushed g t p)) m same) in
            performing.doing (Call.put k v) m f g.pages m' f₁ (checked ∙ w.0)
            (result-put (areas m f) g table.own k v true w.1)
            (effect-put (areas m f) g table.own k v true w.1) both ef

      -- ---- what is stored can be stored, and is what the definitions say
      module _ (bytes : (i : ℕ) → get_or m i 0 < 256) (m₁ f₁ : List ℕ) (less pages : ℕ) where
        pub can_store : Ready g m f k v m₁ f₁ less pages → Storable g k (partition g t m₁) × (less ≤ total_of (partition g t m₁) + appends g k (partition g t m₁))
        can_store (kept h em ef el ep) = let w = meant (Ok Store) h in rw em (storable g k v own f w.0 w.1, omega arith)
        can_store (flushed-first h em ef ep) = can-store-behind bytes less h m₁ em

        pub stores : (m' : List ℕ) → Ready g m f k v m₁ f₁ less pages → m' ≡ within at (stride g) (λ p. totalled (appends g k p) less (unlisted g k (buffered g k v p))) m₁
            → Performs (Call.put k v) m f (done pages) m' f₁
        stores m' (kept h em ef el ep) e =
            let w = meant (Ok Store) h in
            let same : m' ≡ within at (stride g) (stores-in 0) m = rw (el, em) at e in
            rw ep (performing.doing (Call.put k v) m f 0 m' f₁ (checked ∙ w.0)
            (result-put (areas m f) g table.own k v false w.1)
            (effect-put (areas m f) g table.own k v false w.1)
            (same ∙ sym (within_same _ _ (put_in g k v f) (stores-in 0) m (put-kept g k own v f w.1))) ef)
        stores m' (flushed-first h em ef ep) e = rw ep (flushes bytes less h m₁ f₁ m' em ef e)
