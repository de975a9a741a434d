-- Texts joined one behind another, as a loop writes them: none, and the next one.
use Rattle.std.proofs.Common.{ℕ, ◌+◌, List, [], ◌++◌, refl, ◌∙◌, arith}
use Rattle.std.proofs.lemmas.List.{length-append}
use Rattle.model.specs.PartitionText.{joined}
use Rattle.model.proofs.Joining.{joined-none}
use Rattle.model.proofs.Parts.{sets-append}
use Rattle.sources.proofs.Joined.{joined-next}
use Rattle.text_writer.specs.Fitting.{PutsIfFits}

pub fits-none : {at : ℕ} {text : List ℕ} → PutsIfFits [] at text at text
fits-none = record { ends = omega arith; stays = refl; holds = λ h. refl }

pub fits-append : {xs ys : List ℕ} {at p r : ℕ} {a b c : List ℕ} → PutsIfFits xs at a p b → PutsIfFits ys p b r c → PutsIfFits (xs ++ ys) at a r c
fits-append {xs} {ys} f g =
    record {
      ends = omega (arith, length-append xs ys, f.ends, g.ends);
      stays = g.stays ∙ f.stays;
      holds = λ h. g.holds (omega (arith, f.stays)) ∙ rw (f.holds (omega (arith, g.ends)), f.ends, sets-append);
    }

pub fits-first : (f : ℕ → List ℕ) {at : ℕ} {text : List ℕ} → PutsIfFits (joined 0 f) at text at text
fits-first f = rw joined-none fits-none

pub fits-next : (i : ℕ) (f : ℕ → List ℕ) {at p r : ℕ} {a b c : List ℕ} → PutsIfFits (joined i f) at a p b → PutsIfFits (f i) p b r c → PutsIfFits (joined (i + 1) f) at a r c
fits-next i f before next = rw joined-next (fits-append before next)
