-- The list is the part behind the head.
use native.Mathlib.Omega.{arith}
use borrow.Author.Rules.{rules}
use Rattle.list.proofs.expire.Statement.{statement}
use Rattle.list.proofs.expire.Tie as tie
use Prim.Native.Nat.{◌*◌}
use mathlib.Core.Path.{◌∙◌}
use native.Mathlib.Nat.{add-sub_cancel_left}
use Rattle.model.specs.DeleteList.{expired}
use Rattle.model.specs.Batch.{delisted}
use Rattle.model.proofs.Parts.{lent}
use Rattle.model.proofs.Lengths.{length-expired}
use Rattle.partition.proofs.Inside.{list_inside}

part-expire-end : tie.Need-slice_bounds-expire-end
part-expire-end c = omega (arith, list_inside _ _ c.requires.0)

returns : tie.Need-returns
unfolding delisted
returns c =
    let s = c.before.before.before.before.before.before in
    let a = s.args in
    let r = c.expire.ensures in
    (lent 16 (16 * a.g.list) (expired a.back a.flushes a.listed) a.part.now _ (list_inside _ _ s.requires.0) (length-expired a.back a.flushes a.listed) r.0, r.1 ∙ rw add-sub_cancel_left)

pub expire_spec : {M : Type 1} → statement M
expire_spec = tie.close (tie.spec (λ c. search rules) (λ c. search rules) (λ c. search rules) (λ c. search rules) (λ c. search rules) part-expire-end (λ c κs. search rules) (λ c. search rules) returns)
