-- A key of this partition and page that is not listed is answered from the buffer if its page there holds it, otherwise as the batches are asked.
use Rattle.std.proofs.Common.{◌≡◌, ℕ, List, Option, true, false, refl, sym, ◌∙◌, ap}
use Rattle.std.specs.Option as option
use Rattle.std.proofs.lemmas.Bool.{eq-eqb, ne_eqb}
use Rattle.model.specs.declared.Geometry.{Geometry}
use Rattle.model.specs.Keys.{partition_of, page_of}
use Rattle.model.specs.Partition.{listed_of, live_of, list_of}
use Rattle.model.specs.Answers.{Place}
use Rattle.model.specs.DeleteList.{listed_at}
use Rattle.model.specs.Get.{sought}
use Rattle.model.specs.PartitionText.{is_found_in, answers_in}
use Rattle.model.proofs.Lookup.{sought-listed, sought-unlisted}
use Rattle.model.proofs.Passing.{passing-from}
use Rattle.answering.specs.Younger.{sought_among}
use Rattle.answering.proofs.Asking.{is-some, is-none, from-buffer}
use Rattle.answering.proofs.answers_in.Goals as goal

-- a key of this partition and page
module _ (g : Geometry) (t : ℕ) (p f : List ℕ) (at : Place) (q k : ℕ) (own : partition_of g k ≡ t) (paged : page_of g k ≡ q) where
  here : answers_in g t p f at q k ≡ is_found_in at (sought g k p f)
  unfolding answers_in
  here = rw (eq-eqb _ _ own, eq-eqb _ _ paged)

  module _ (o : Option ℕ) (e : o ≡ listed_at (listed_of p) k (list_of g p)) where
    listed : option.is_some o ≡ true → answers_in g t p f at q k ≡ false
    listed h = let i = is-some o h in here ∙ ap (is_found_in at) (sought-listed g k f p i.0 (sym e ∙ i.1))

    unlisted : option.is_some o ≡ false → answers_in g t p f at q k ≡ is_found_in at (sought_among g (live_of p) k p f)
    unlisted h = here ∙ ap (is_found_in at) (rw (← passing-from g k p) (sought-unlisted g k f p (sym e ∙ is-none o h)))

pub returns-then-partition_of-spot : goal.returns-then-partition_of-spot
unfolding answers_in
returns-then-partition_of-spot c = rw (← c.partition_of.ensures, ne_eqb _ _ c.if-partition_of-spot.true)

pub returns-then-page_of-spot : goal.returns-then-page_of-spot
unfolding answers_in
returns-then-page_of-spot c = rw (eq-eqb _ _ (sym c.partition_of.ensures ∙ c.if-partition_of-spot.false), ← c.page_of.ensures, ne_eqb _ _ c.if-page_of-spot.true)

pub returns-then-is_some : goal.returns-then-is_some
returns-then-is_some c =
    let own = sym c.partition_of.ensures ∙ c.if-partition_of-spot.false in
    let paged = sym c.page_of.ensures ∙ c.if-page_of-spot.false in
    sym (listed _ _ _ _ _ _ _ own paged _ c.find.ensures (sym c.is_some.ensures ∙ c.if-is_some.true))

pub returns-in-Buffer : goal.returns-in-Buffer
returns-in-Buffer c =
    let own = sym c.partition_of.ensures ∙ c.if-partition_of-spot.false in
    let paged = sym c.page_of.ensures ∙ c.if-page_of-spot.false in
    let held = rw (← paged, c.in-Buffer.is) at c.requires.flash_value in
    sym (unlisted _ _ _ _ _ _ _ own paged _ c.find.ensures (sym c.is_some.ensures ∙ c.if-is_some.false) ∙ rw c.in-Buffer.is (from-buffer _ _ _ _ _ held))

pub returns-in-Batch : goal.returns-in-Batch
returns-in-Batch c =
    let own = sym c.partition_of.ensures ∙ c.if-partition_of-spot.false in
    let paged = sym c.page_of.ensures ∙ c.if-page_of-spot.false in
    c.is_batch_asked.ensures ∙ sym (unlisted _ _ _ _ _ _ _ own paged _ c.find.ensures (sym c.is_some.ensures ∙ c.if-is_some.false) ∙ rw c.in-Batch.is refl)
