-- What is left of the checks of a readable partition is the room, and what passes them all is readable and has room; what the code tells says which it was.
use Rattle.std.proofs.Common.{◌≡◌, ◌≤◌, ◌<◌, ℕ, Bool, true, false, List, [], ◌∷◌, Option, Some, None, Ok, Err, ltb, length, refl, ◌∙◌, arith}
use Rattle.std.proofs.lemmas.List.Edits.{sets}
use Rattle.std.proofs.lemmas.Bool.{lt-ltb, le-ltb, ltb-false}
use Rattle.model.specs.declared.Geometry.{Geometry}
use Rattle.model.specs.Geometry.{partitions, flash_need}
use Rattle.model.specs.Partition.{head_of}
use Rattle.model.specs.Answers.{Refusal, unread}
use Rattle.model.specs.Refusals.{head_overfull, some_page_overfull}
use Rattle.model.specs.PartitionText.{partition_text, some_batch_fails, text_checks}
use Rattle.model.proofs.Checks.{text-12, text-12-page, text-13, text-room}
use Rattle.answers.specs.Told.{unless}
use Rattle.partition.specs.Ready.{Whole}
use Rattle.sources.specs.Readable.{Readable}

-- a test that would refuse fails where nothing refuses
stops-not : (b : Bool) (o : Option Refusal) (r : Refusal) → (b ≡ true → o ≡ Some r) → o ≡ None → b ≡ false
stops-not true o r h e = let s = h refl in absurd (cc)
stops-not false o r h e = refl

pub refuses : {A : Type 0} (o : Option Refusal) (x : A) (r : Refusal) → Err r ≡ unless o x → o ≡ Some r
refuses (Some s) x r e = cc
refuses None x r e = absurd (cc)

pub passed : {A : Type 0} (o : Option Refusal) (x y : A) → Ok y ≡ unless o x → (o ≡ None) × (y ≡ x)
passed (Some s) x y e = absurd (cc)
passed None x y e = (refl, cc)

-- a text of no bytes leaves its area as it was
pub nothing-written : (bytes xs : List ℕ) → length bytes ≡ 0 → xs ≡ sets xs 0 bytes
nothing-written [] xs e = refl
nothing-written (b ∷ bs) xs e = absurd (omega (arith, e))

module _ (g : Geometry) (t room : ℕ) (p f : List ℕ) (below : t < partitions g) where
  module _ (head : head_overfull g (head_of p) ≡ false) (pages : some_page_overfull g p ≡ false) (batches : some_batch_fails g t p f ≡ false) where
    pub room-lacks : room < length (partition_text g t p f) → text_checks g t room p f ≡ Some (unread 22)
    room-lacks l = text-room g t room p f below head pages batches ∙ rw (lt-ltb _ _ l)

    pub passes : length (partition_text g t p f) ≤ room → text_checks g t room p f ≡ None
    passes l = text-room g t room p f below head pages batches ∙ rw (le-ltb _ _ l)

  pub readable : Whole g p → flash_need g ≤ length f → text_checks g t room p f ≡ None → Readable g t p f × (length (partition_text g t p f) ≤ room)
  readable whole fits e =
      let head : head_overfull g (head_of p) ≡ false = stops-not _ _ _ (text-12 g t room p f below) e in
      let pages : some_page_overfull g p ≡ false = stops-not _ _ _ (text-12-page g t room p f below head) e in
      let batches : some_batch_fails g t p f ≡ false = stops-not _ _ _ (text-13 g t room p f below head pages) e in
      let r : Readable g t p f = record { whole = whole; flash_fits = fits; below = below; head = head; pages = pages; batches = batches } in
      (r, ltb-false _ _ (stops-not (ltb room (length (partition_text g t p f))) _ (unread 22) (λ l. text-room g t room p f below head pages batches ∙ rw l) e))
