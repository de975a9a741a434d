-- The head is read, the list loses what is stamped with the oldest live batch, and the head is put back with all that leaves.
use Prim.Native.Nat.{◌≤◌}
use mathlib.Core.Path.{◌≡◌, ◌∙◌, ap}
use native.Mathlib.Omega.{arith}
use borrow.Author.Rules.{rules}
use Rattle.model.specs.DeleteList.{unexpired}
use Rattle.model.specs.Partition.{head_of, unlisted_head, totalled_head, flushes_of, listed_of, live_of, list_of}
use Rattle.model.proofs.Sizes.{sizes}
use Rattle.model.proofs.Heads.{HeadFits, head-fits, head-dropped}
use Rattle.model.proofs.ListEntries.{stay-at-most}
use Rattle.head.proofs.Fields.{flushes-is, listed-is, total-is, live-is}
use Rattle.partition.proofs.Inside.{list_inside}
use Rattle.drop.proofs.Dropping.{stays, puts_back}
use Rattle.drop.proofs.apply.Statement.{statement}
use Rattle.drop.proofs.apply.Tie as tie

-- ---- the steps that the facts go back to
abbrev start : tie.After-read-head → tie.Start
start c = c.before.before

abbrev read_at : tie.After-expire-stay → tie.After-read-head
read_at c = c.before.before

abbrev expired-at : tie.After-lowered → tie.After-expire-stay
expired-at c = c.before.before.before

fits : (c : tie.After-read-head) → HeadFits (start c).args.g (head_of (start c).args.part.now)
fits c = head-fits _ _ (start c).requires.1.head

-- ---- the list
expire-requires : tie.Need-expire-stay-requires
expire-requires c κs = let r = c.before in ((start r).requires.0, omega (arith, listed-is r.read-head.ensures, (fits r).list))

stay : (c : tie.After-expire-stay) → let a = (start (read_at c)).args in c.expire-stay.result ≡ unexpired (live_of a.part.now) (flushes_of a.part.now) (listed_of a.part.now) (list_of a.g a.part.now)
stay c = let r = (read_at c).read-head.ensures in let a = (start (read_at c)).args in stays a.g a.part.now (live-is r) (flushes-is r) (listed-is r) c.expire-stay.ensures.1

stay-le : (c : tie.After-expire-stay) → c.expire-stay.result ≤ (read_at c).read-head.result.listed
stay-le c = stay-at-most _ _ _ _ c.expire-stay.ensures.1

-- ---- the head
lowered-requires : tie.Need-lowered-requires
lowered-requires c κs = let r = read_at c.before.before in omega (arith, live-is r.read-head.ensures, (start r).requires.1.some)

cast-unlisted : tie.Need-overflow_cast-stay
cast-unlisted c =
    let x = expired-at c in
    let r = read_at x in
    omega (arith, stay-le x, listed-is r.read-head.ensures, (fits r).list, (sizes _ (start r).requires.0.fine).list-max)

unlisted-requires : tie.Need-unlisted-left-requires
unlisted-requires c κs = omega (arith, listed-is c.lowered.ensures)

totalled-requires : tie.Need-totalled-requires
totalled-requires c κs =
    let u = c.before in
    let r = read_at (expired-at u.before) in
    omega (arith, total-is u.unlisted-left.ensures, total-is u.lowered.ensures, total-is r.read-head.ensures, (start r).requires.1.counted)

returns : tie.Need-returns
returns c =
    let d = c.before.before.before in
    let u = d.before.before in
    let x = expired-at u.before in
    let r = (read_at x).read-head.ensures in
    let a = (start (read_at x)).args in
    let head = d.totalled.ensures ∙ ap (totalled_head 0 a.less) (u.unlisted-left.ensures ∙ ap (unlisted_head _) u.lowered.ensures) in
    puts_back a.g a.part.now (live-is r) (flushes-is r) (listed-is r) a.less x.expire-stay.ensures.0 (head ∙ head-dropped _ _ _ r (stay x) (omega (arith, listed-is r))) c.put_back.ensures

pub apply_spec : {M : Type 1} → statement M
apply_spec =
    tie.close (tie.spec (λ c κs. omega (arith, list_inside _ _ c.requires.0)) expire-requires lowered-requires cast-unlisted (λ c. omega (arith, stay-le (expired-at c))) unlisted-requires totalled-requires
    (λ c κs. let r = read_at (expired-at c.before.before.before) in omega (arith, list_inside _ _ (start r).requires.0)) (λ c. search rules) returns)
