-- The entry has a line exactly if it answers: what the test says is what is put.
use Rattle.std.proofs.Common.{◌≡◌, ◌+◌, ◌<◌, ℕ, List, length, refl, ◌∙◌, ap, arith}
use Rattle.std.specs.Prelude.{true, false}
use lib.Seq.{length-sets}
use Rattle.model.specs.declared.Geometry.{Geometry}
use Rattle.model.specs.PartitionText.{put_text}
use Rattle.page_reader.specs.declared.Entry.{Entry}
use Rattle.page_reader.specs.Steps.{entry_of}
use Rattle.printer.specs.Puts.{Puts}
use Rattle.sources.specs.declared.Spot.{Spot}
use Rattle.sources.specs.Readable.{spot_page, spot_answers, spot_line}
use Rattle.answering.proofs.Entries.{line, no-line}
use Rattle.text_writer.specs.Fitting.{PutsIfFits}
use Rattle.text_writer.proofs.Putting.{fits-none}

module _ (g : Geometry) (s : Spot) (p f : List ℕ) (e : Entry) where
  pub fits-silent : {at : ℕ} {text : List ℕ} → spot_answers g s p f e.place ≡ false → PutsIfFits (spot_line g s p f e.place) at text at text
  fits-silent silent = rw (no-line g s p f e silent) fits-none

  pub fits-told : {at r : ℕ} {text : List ℕ} → r ≡ at → spot_answers g s p f e.place ≡ false → PutsIfFits (spot_line g s p f e.place) at text r text
  fits-told same silent = rw same (fits-silent silent)

  module _ (page : List ℕ) (lends : page ≡ spot_page g s p f) (own : e ≡ entry_of page e.place) (answers : spot_answers g s p f e.place ≡ true) where
    pub fits-put : {at r n : ℕ} {before later : List ℕ} → n ≡ length (put_text e.key e.value) → Puts (put_text e.key e.value) at before r later → PutsIfFits (spot_line g s p f e.place) at before (at + n) later
    fits-put {at} {r} {n} {before} en put =
        rw (line g s p f e page lends own answers) (record { ends = rw en; stays = ap length put.holds ∙ length-sets before at (put_text e.key e.value); holds = λ h. put.holds })

    pub fits-not : {at n : ℕ} {before : List ℕ} → n ≡ length (put_text e.key e.value) → length before < at + n → PutsIfFits (spot_line g s p f e.place) at before (at + n) before
    fits-not en short = rw (line g s p f e page lends own answers) (record { ends = rw en; stays = refl; holds = λ h. absurd (omega arith) })
