use Rattle.std.proofs.Common.{◌∙◌, ap}
use Rattle.std.proofs.lemmas.List.{length-replicate}
use Rattle.model.specs.Bytes.{zeros}
use Rattle.model.proofs.Parts.{length-lent}
use Rattle.words.proofs.Copying.{part_set}
use Rattle.words.proofs.zero.Goals as goal

pub returns : goal.returns
returns c =
    let a = c.args in
    part_set a.at a.n a.s.now (zeros a.n) c.requires
    (c.fill.ensures.after (λ y h. h) ∙ ap zeros (length-lent a.at a.n a.s.now c.requires)) (length-replicate _ _)
