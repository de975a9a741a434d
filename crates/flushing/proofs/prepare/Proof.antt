-- The filter and the list are those of `flushed`; the head is read before they change, and they leave it as it was.
use Prim.Native.Nat.{◌≤◌, ◌<◌}
use mathlib.Core.Path.{◌≡◌, refl, ◌∙◌, ap}
use native.Mathlib.Omega.{arith}
use borrow.Author.Rules.{rules}
use Rattle.model.specs.DeleteList.{unexpired}
use Rattle.model.specs.Partition.{unlisted_head, flushes_of, listed_of, list_of}
use Rattle.model.specs.Refusals.{last_flush}
use Rattle.model.specs.Batch.{delisted}
use Rattle.model.specs.Flush.{filtered}
use Rattle.model.proofs.Sizes.{sizes, slot-is-lt}
use Rattle.model.proofs.Heads.{head-fits, head-after}
use Rattle.model.proofs.Checks.{pages-fit}
use Rattle.model.proofs.ListEntries.{stay-at-most}
use Rattle.head.proofs.Fields.{flushes-is, listed-is, live-is}
use Rattle.partition.proofs.Inside.{list_inside}
use Rattle.flushing.proofs.Preparing.{filter-made, list-shortened, stay-as-were}
use Rattle.flushing.proofs.prepare.Statement.{statement}
use Rattle.flushing.proofs.prepare.Tie as tie

-- ---- the steps that the facts go back to
abbrev start : tie.After-read-head → tie.Start
start c = c.before.before

abbrev read_at : tie.After-make → tie.After-read-head
read_at c = c.before.before

abbrev made_at : tie.After-expire-stay → tie.After-make
made_at c = c.before.before.before.before

abbrev expired-at : tie.After-flushed → tie.After-expire-stay
expired-at c = c.before.before.before

-- ---- what the head holds
small : (c : tie.After-read-head) → let g = (start c).args.g in (c.read-head.result.flushes < last_flush) × (c.read-head.result.listed ≤ g.list) × (g.list ≤ 1024)
small c =
    let s = start c in
    omega (arith, flushes-is c.read-head.ensures, listed-is c.read-head.ensures, s.requires.1.0.number, (head-fits _ _ s.requires.1.0.head).list, (sizes _ s.requires.0.fine).list-max)

make-requires : tie.Need-make-requires
make-requires c κs =
    let s = start c.before in
    (s.requires.0.fine, (slot-is-lt _ s.requires.0.fine _ s.requires.1.1, (s.requires.0.long, pages-fit _ _ s.requires.1.0.pages)))

-- ---- the partition with its new filter, and the list without what expires
made : (c : tie.After-make) → let a = (start (read_at c)).args in c.make.new.part ≡ filtered a.g a.part.now
made c = filter-made _ _ (start (read_at c)).requires.1.1 refl c.make.ensures

expire-requires : tie.Need-expire-stay-requires
expire-requires c κs =
    let s = start (read_at c.before.before.before) in
    (record { fine = s.requires.0.fine; long = omega (arith, s.requires.0.long) }, omega (arith, small (read_at c.before.before.before)))

stay : (c : tie.After-expire-stay) → let a = (start (read_at (made_at c))).args in c.expire-stay.result ≡ unexpired a.g.kept (flushes_of a.part.now) (listed_of a.part.now) (list_of a.g a.part.now)
stay c =
    let r = read_at (made_at c) in
    stay-as-were _ _ (made (made_at c)) (flushes-is r.read-head.ensures) (listed-is r.read-head.ensures) (start r).requires.0 c.expire-stay.ensures.1

stay-le : (c : tie.After-expire-stay) → c.expire-stay.result ≤ (read_at (made_at c)).read-head.result.listed
stay-le c = stay-at-most _ _ _ _ c.expire-stay.ensures.1

shorter : (c : tie.After-expire-stay) → let a = (start (read_at (made_at c))).args in c.expire-stay.new.part ≡ delisted a.g a.g.kept (flushes_of a.part.now) (listed_of a.part.now) (filtered a.g a.part.now)
shorter c =
    let r = read_at (made_at c) in
    list-shortened _ _ (made (made_at c)) (flushes-is r.read-head.ensures) (listed-is r.read-head.ensures) c.expire-stay.ensures.0

-- ---- the new head
flushed-requires : tie.Need-flushed-requires
flushed-requires c κs =
    let r = read_at (made_at c.before.before) in
    (omega (arith, small r), omega (arith, live-is r.read-head.ensures, (head-fits _ _ (start r).requires.1.0.head).kept))

cast-unlisted : tie.Need-overflow_cast-stay
cast-unlisted c = let x = expired-at c in omega (arith, stay-le x, small (read_at (made_at x)))

sub-unlisted : tie.Need-overflow_sub-listed
sub-unlisted c = omega (arith, stay-le (expired-at c))

returns : tie.Need-returns
returns c =
    let x = expired-at c.before in
    let r = read_at (made_at x) in
    (shorter x, c.unlisted.ensures ∙ ap (unlisted_head _) c.flushed.ensures ∙ head-after _ _ r.read-head.ensures (stay x) (omega (arith, listed-is r.read-head.ensures)))

pub prepare_spec : {M : Type 1} → statement M
prepare_spec =
    tie.close (tie.spec (λ c κs. omega (arith, list_inside _ _ c.requires.0)) make-requires expire-requires
    flushed-requires cast-unlisted sub-unlisted (λ c κs. omega (arith, listed-is c.flushed.ensures)) (λ c. search rules) returns)
