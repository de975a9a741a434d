-- What the checks of an opening answer, and what an opened table gives the calls.
use Rattle.std.specs.Prelude.{ℕ, ◌≤◌, true, List, ◌≡◌, length, Option, None, Result}
use Rattle.model.specs.declared.Geometry.{Geometry}
use Rattle.model.specs.Geometry.{allowed, memory_need, flash_need}
use Rattle.model.specs.Opening.{geometry_of}
use Rattle.model.specs.Answers.{Refusal}
use Rattle.model.specs.Refusals.{unopened}
use Rattle.answers.specs.Performs.{areas}
use Rattle.answers.specs.Told.{unless}

-- what the checks say that every call but format begins with, or the geometry
unfoldable pub opened : List ℕ → List ℕ → Result Geometry Refusal
opened m f = unless (unopened (areas m f) None) (geometry_of m)

-- memory and flash are a table with this geometry: the common checks stop no call
pub record IsTable (g : Geometry) (m f : List ℕ) : Type 0 where
  pub own : geometry_of m ≡ g
  pub fine : allowed g ≡ true
  pub memory_fits : memory_need g ≤ length m
  pub flash_fits : flash_need g ≤ length f
  pub opens : (later : Option Refusal) → unopened (areas m f) later ≡ later
