-- What every public call promises: for all areas and arguments, refused or not, it answers and leaves what the definitions say.
use Rattle.std.specs.Prelude.{ℕ, ◌+◌, ◌≤◌, List, ◌≡◌, length, Result, Ok, Err}
use Rattle.model.specs.Answers.{Areas, Answer}
use Rattle.model.specs.Calls.{Call, reply, after}
use Rattle.answers.specs.declared.Refusal.{Refusal}
use Rattle.answers.specs.declared.Viewed.{Viewed}

abbrev pub areas : List ℕ → List ℕ → Areas
areas memory flash = record { memory = memory; flash = flash }

-- the call c on m and f answers r and leaves m' and f'
pub record Performs (c : Call) (m f : List ℕ) (r : Answer) (m' f' : List ℕ) : Type 0 where
  pub answers : r ≡ reply (areas m f) c
  pub leaves : areas m' f' ≡ after (areas m f) c

-- what a view shows lies within its area
abbrev pub Inside : Result Viewed Refusal → List ℕ → List ℕ → Type 0
Inside (Ok (Viewed.Memory at size)) m f = at + size ≤ length m
Inside (Ok (Viewed.Flash at size)) m f = at + size ≤ length f
Inside (Err r) m f = Unit {0}
