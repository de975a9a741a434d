-- What the functions ask that read a partition's entries one by one.
use Rattle.std.specs.Prelude.{ℕ, ◌≤◌, ◌<◌, Bool, true, false, List, ◌≡◌, length}
use Rattle.model.specs.declared.Geometry.{Geometry}
use Rattle.model.specs.Geometry.{partitions, flash_need}
use Rattle.model.specs.Partition.{Head, head_of, is_live}
use Rattle.model.specs.Answers as model
use Rattle.model.specs.Answers.{buffer, batch}
use Rattle.model.specs.Refusals.{head_overfull, some_page_overfull}
use Rattle.model.specs.PartitionText.{source_page, answers_with, entry_text, page_text, some_batch_fails}
use Rattle.answers.specs.Told as told
use Rattle.partition.specs.Ready.{Whole}
use Rattle.sources.specs.declared.Spot.{Spot}

-- partition t with the bytes p, and flash: neither 3, 4, 12 nor 13
pub record Readable (g : Geometry) (t : ℕ) (p f : List ℕ) : Type 0 where
  pub whole : Whole g p
  pub flash_fits : flash_need g ≤ length f
  pub below : t < partitions g
  pub head : head_overfull g (head_of p) ≡ false
  pub pages : some_page_overfull g p ≡ false
  pub batches : some_batch_fails g t p f ≡ false

-- the buffer, or a live batch
abbrev pub IsSource : Head → model.Place → Type 0
IsSource h buffer = Unit {0}
IsSource h (batch n) = is_live h n ≡ true

-- a page of one of them
pub record IsSpot (g : Geometry) (s : Spot) (p f : List ℕ) : Type 0 where
  pub readable : Readable g s.partition p f
  pub source : IsSource (head_of p) (told.place s.at)
  pub below : s.page < g.pages

-- what the definitions say of it
abbrev pub spot_page : Geometry → Spot → List ℕ → List ℕ → List ℕ
spot_page g s p f = source_page g s.partition p f (told.place s.at) s.page

abbrev pub spot_text : Geometry → Spot → List ℕ → List ℕ → List ℕ
spot_text g s p f = page_text g s.partition p f (told.place s.at) s.page

abbrev pub spot_answers : Geometry → Spot → List ℕ → List ℕ → ℕ → Bool
spot_answers g s p f i = answers_with g s.partition p f (told.place s.at) s.page i

abbrev pub spot_line : Geometry → Spot → List ℕ → List ℕ → ℕ → List ℕ
spot_line g s p f i = entry_text g s.partition p f (told.place s.at) s.page i
