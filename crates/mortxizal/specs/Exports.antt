-- What an exported call promises.
use Rattle.std.specs.Prelude.{ℕ, List, ◌≡◌, length}
use Rattle.model.specs.Calls.{Call, text, reply, after, text_left}
use Rattle.answers.specs.Performs.{areas}
use Rattle.exported.specs.declared.MxAnswer.{MxAnswer}
use Rattle.exported.specs.Exported.{exported_by}

-- the call c on m and f answers r and leaves m' and f'
pub record Exports (c : Call) (m f : List ℕ) (r : MxAnswer) (m' f' : List ℕ) : Type 0 where
  pub answers : r ≡ exported_by c (reply (areas m f) c)
  pub leaves : areas m' f' ≡ after (areas m f) c

-- the call text does so with m and f as they were, and leaves xs' of the text area xs
pub record ExportsText (t : ℕ) (m f xs : List ℕ) (r : MxAnswer) (xs' : List ℕ) : Type 0 where
  pub exports : Exports (text t (length xs)) m f r m f
  pub writes : xs' ≡ text_left (areas m f) t xs
