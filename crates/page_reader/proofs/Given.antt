-- What a step tells of the place that it was asked for.
use Prim.Native.Nat.{ℕ, ◌≤◌, ◌<◌}
use mathlib.Core.List.{List}
use mathlib.Core.Path.{◌≡◌}
use lib.Dec.{leb}
use borrow.Author.Tests.{leb-true, leb-false}
use Rattle.std.specs.Prelude.{Option, Some, None}
use Rattle.model.specs.Page.{count_of}
use Rattle.model.proofs.Tests.{either}
use Rattle.page_reader.specs.Steps.{entry_of, step_at}
use Rattle.page_reader.specs.declared.Entry.{Entry}

module _ (p : List ℕ) (i : ℕ) where
  -- an entry: its place is used, and it is the one there
  pub given-entry : {s : Option Entry} {e : Entry} → s ≡ step_at p i → s ≡ Some e → (i ≤ count_of p) × (e ≡ entry_of p i)
  unfolding step_at
  given-entry {s} {e} r h = either (leb i (count_of p))
      (λ used. let its : s ≡ Some (entry_of p i) = rw used at r in (leb-true _ _ used, cc))
      (λ none. let its : s ≡ None = rw none at r in absurd (cc))

  -- the end: it is behind the used ones
  pub given-end : {s : Option Entry} → s ≡ step_at p i → s ≡ None → count_of p < i
  unfolding step_at
  given-end {s} r h = either (leb i (count_of p))
      (λ used. let its : s ≡ Some (entry_of p i) = rw used at r in absurd (cc))
      (λ none. leb-false _ _ none)
