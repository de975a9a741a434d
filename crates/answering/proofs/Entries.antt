-- An entry that the reader gives: its place is used and the one that was asked for, it is the one there, and it has a line exactly if it answers.
use Rattle.std.proofs.Common.{◌≡◌, ◌≤◌, ℕ, true, false, List, [], Option, Some, sym, ◌∙◌, ap}
use Rattle.model.specs.declared.Geometry.{Geometry}
use Rattle.model.specs.Page.{count_of}
use Rattle.model.specs.PartitionText.{put_text}
use Rattle.model.proofs.Joining.{entry-line, entry-none}
use Rattle.answers.specs.Told.{place}
use Rattle.page_reader.specs.Steps.{entry_of, step_at}
use Rattle.page_reader.specs.declared.Entry.{Entry}
use Rattle.page_reader.proofs.Given.{given-entry}
use Rattle.sources.specs.declared.Spot.{Spot}
use Rattle.sources.specs.Readable.{spot_page, spot_answers, spot_line}

pub record Given (page : List ℕ) (place : ℕ) (entry : Entry) : Type 0 where
  pub used : place ≤ count_of page
  pub placed : entry.place ≡ place
  pub own : entry ≡ entry_of page entry.place

pub given : {page : List ℕ} {place : ℕ} {entry : Entry} {o : Option Entry} → o ≡ step_at page place → o ≡ Some entry → Given page place entry
given {page} {place} e s =
    let its = given-entry page place e s in
    let placed = ap (λ (e : Entry). e.place) its.1 in
    record { used = its.0; placed = placed; own = its.1 ∙ ap (entry_of page) (sym placed) }

module _ (g : Geometry) (s : Spot) (p f : List ℕ) (e : Entry) where
  pub line : (page : List ℕ) → page ≡ spot_page g s p f → e ≡ entry_of page e.place → spot_answers g s p f e.place ≡ true → spot_line g s p f e.place ≡ put_text e.key e.value
  line page lends own answers = entry-line g s.partition p f (place s.at) s.page e.place answers ∙ rw (← lends) (sym (ap (λ (x : Entry). put_text x.key x.value) own))

  pub no-line : spot_answers g s p f e.place ≡ false → spot_line g s p f e.place ≡ []
  no-line silent = entry-none g s.partition p f (place s.at) s.page e.place silent
