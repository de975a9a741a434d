-- First the page, then the list, then the total; the page lies behind the head and the list, so the list's count is as it was, and neither changes the total.
use Rattle.std.proofs.Common.{◌≡◌, ℕ, ◌<◌, List, length, get_or, ap, ap₂, ◌∙◌, arith, rules}
use Rattle.std.specs.Prelude.{Option}
use Rattle.model.specs.declared.Geometry.{Geometry}
use Rattle.model.specs.Partition.{Head, listed_of, totalled, total_of}
use Rattle.model.specs.Del.{unbuffered, listed_with}
use Rattle.model.proofs.Checks.{key_fits}
use Rattle.model.proofs.Heads.{head-fits}
use Rattle.model.proofs.Lengths.{length-unbuffered, length-listed_with}
use Rattle.model.proofs.PartitionsCalls.{laid-unbuffered}
use Rattle.model.proofs.Sizes.{most-max}
use Rattle.model.proofs.Totals.{total-unbuffered, total-listed}
use Rattle.partition.specs.Ready.{Whole}
use Rattle.partition.proofs.Inside.{list_inside}
use Rattle.partition.proofs.Lending.{head-words}
use Rattle.del.specs.Plans.{Listable}
use Rattle.del.proofs.apply.Goals as goal
use Rattle.del.proofs.apply.Goals.{Joined-youngest, in-Some, in_default}

-- the list's count behind the page, and the total behind page and list
module _ (g : Geometry) (k : ℕ) (p : List ℕ) (w : Whole g p) where
  listed_kept : listed_of (unbuffered g k p) ≡ listed_of p
  listed_kept = ap (λ (h : Head). h.listed) (laid-unbuffered g w.fine p w.long k).head

  head-kept : (o : Option ℕ) (p' : List ℕ) → Listable g k o p → ((i : ℕ) → get_or p i 0 < 256) → p' ≡ listed_with o g k (unbuffered g k p) → (length p' ≡ length p) × (total_of p' ≡ total_of p)
  head-kept o p' able bytes e =
      let l = laid-unbuffered g w.fine p w.long k in
      let total = total-listed g w.fine (unbuffered g k p) l.long (rw l.head (head-words p bytes)) o (λ n e. rw listed_kept (able.free n e)) k in
      rw e (length-listed_with o g k (unbuffered g k p) ∙ length-unbuffered g k p, total ∙ total-unbuffered g w.fine p w.long k)

pub list-requires-clause-part_bound : goal.list-requires-clause-part_bound
list-requires-clause-part_bound c = rw (c.drop_key-less.ensures.0, listed_kept _ _ _ c.requires.whole) (c.requires.listable.free _ c.in-Some.is)

-- where the branches meet, the key is listed as the batch says
joined : (c : Joined-youngest) → let a = c.args in c.match-youngest.part ≡ listed_with a.youngest a.g a.key (unbuffered a.g a.key a.part.now)
joined c =
    let d = c.drop_key-less.ensures.0 in
    elim c.match-youngest.branch [ in-Some w ↦ rw (w.part-is, w.list.ensures, d, w.in-Some.is) | in_default w ↦ rw (w.part-is, d, w.in_default.is) ]

kept : (c : Joined-youngest) → let p = c.args.part.now in (length c.match-youngest.part ≡ length p) × (total_of c.match-youngest.part ≡ total_of p)
kept c = head-kept _ _ _ c.requires.whole _ _ c.requires.listable (λ i. search rules) (joined c)

pub change_total-requires-clause-in_bounds : goal.change_total-requires-clause-in_bounds
change_total-requires-clause-in_bounds c =
    let k = kept (goal.at.change_total-requires-clause-in_bounds c).Joined-youngest in
    omega (arith, k.0, list_inside _ _ c.requires.whole)

pub change_total-requires-clause-more_bound : goal.change_total-requires-clause-more_bound
change_total-requires-clause-more_bound c =
    let k = kept (goal.at.change_total-requires-clause-more_bound c).Joined-youngest in
    let w = c.requires in
    omega (arith, k.1, most-max _ w.whole.fine, (head-fits _ _ (key_fits _ _ _ w.listable.fits).0).total)

pub change_total-requires-clause-less_bound : goal.change_total-requires-clause-less_bound
change_total-requires-clause-less_bound c =
    let k = kept (goal.at.change_total-requires-clause-less_bound c).Joined-youngest in
    omega (arith, k.1, c.drop_key-less.ensures.1, c.requires.listable.counted)

pub returns : goal.returns
returns c = c.change_total.ensures ∙ ap₂ (totalled 0) c.drop_key-less.ensures.1 (joined (goal.at.returns c).Joined-youngest)
