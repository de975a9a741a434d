-- What is told of a line: a place stands for what follows it.
use Rattle.std.specs.Prelude.{ℕ, Bool, List, get_or, drop, Option, None, Some}
use Rattle.model.specs.Geometry.{between}
use Rattle.model.specs.Text.{past, Figure, figure}
use Rattle.model.specs.Session.{then}

-- does a figure stand at this place?
unfoldable pub figure_at : List ℕ → ℕ → Bool
figure_at line i = between 48 57 (get_or line i 0)

abbrev pub behind_in : List ℕ → Option ℕ → Option (List ℕ)
behind_in line (Some next) = Some (drop next line)
behind_in line None = None

-- a number and the place behind it
abbrev pub number_in : List ℕ → Option (ℕ × ℕ) → Option Figure
number_in line (Some (n, next)) = Some (record { value = n; rest = drop next line })
number_in line None = None

-- the number below the limit that follows a text
abbrev pub figure_past : List ℕ → ℕ → List ℕ → Option Figure
figure_past t limit xs = then (past t xs) (figure limit)
