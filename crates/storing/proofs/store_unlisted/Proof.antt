-- First the value, then the list, then the total. The page lies behind the head and the list, so the head is as it was, and a key that leaves the list leaves the total.
use Prim.Native.Nat.{ℕ, ◌≤◌, ◌<◌}
use mathlib.Core.Bool.{true, false, cond}
use mathlib.Core.List.{List}
use mathlib.Core.Path.{◌≡◌, ◌∙◌, ap}
use native.Mathlib.Omega.{arith}
use lib.ListN.{get_or}
use borrow.Author.Rules.{rules}
use Rattle.model.specs.declared.Geometry.{Geometry}
use Rattle.model.specs.Search.{is_some}
use Rattle.model.specs.Keys.{page_of}
use Rattle.model.specs.Page.{searched, added}
use Rattle.model.specs.Partition.{total_of, totalled, buffer_of}
use Rattle.model.specs.Refusals.{head_overfull}
use Rattle.model.specs.Put.{appends, unlisted, buffered}
use Rattle.model.proofs.Sizes.{most-max}
use Rattle.model.proofs.Heads.{head-fits}
use Rattle.model.proofs.Checks.{key_fits}
use Rattle.model.proofs.PartitionsCalls.{laid-buffered}
use Rattle.model.proofs.Totals.{total-buffered, total-unlisted}
use Rattle.partition.specs.Ready.{Whole}
use Rattle.partition.proofs.Inside.{list_inside}
use Rattle.partition.proofs.Lending.{head-words}
use Rattle.storing.proofs.store_unlisted.Statement.{statement}
use Rattle.storing.proofs.store_unlisted.Tie as tie

unlist-requires : tie.Need-unlist-requires
unlist-requires c κs =
    let s = c.before.before.before.before.before.before in
    let l = laid-buffered _ s.requires.0.fine s.args.part.now s.requires.0.long s.args.key s.args.value in
    rw c.store-more.ensures.0 (record { fine = s.requires.0.fine; long = l.long }, ap (head_overfull s.args.g) l.head ∙ (key_fits _ _ _ s.requires.1.0.fits).0)

-- ---- the total
module _ (g : Geometry) (k v : ℕ) (p p' p'' : List ℕ) (e' : p' ≡ buffered g k v p) (e'' : p'' ≡ unlisted g k p') where
  total_kept : Whole g p → ((i : ℕ) → get_or p i 0 < 256) → total_of p'' ≡ total_of p
  total_kept w bytes =
      let l = laid-buffered g w.fine p w.long k v in
      rw (e'', e')
      (total-unlisted g w.fine (buffered g k v p) l.long (rw l.head (head-words p bytes)) k ∙ total-buffered g w.fine p w.long k v)

  total-changed : (more less : ℕ) (p''' : List ℕ) → more ≡ appends g k p → p''' ≡ totalled more less p'' → p''' ≡ totalled (appends g k p) less (unlisted g k (buffered g k v p))
  total-changed more less p''' n e''' = rw (e''', e'', e', n)

-- a put adds one entry at most
one_more : (g : Geometry) (k : ℕ) (p : List ℕ) → appends g k p ≤ 1
unfolding appends added
one_more g k p = elim (is_some (searched k (buffer_of g p (page_of g k)))) as (λ b. cond b 0 1 ≤ 1) [ true ↦ omega arith | false ↦ omega arith ]

abbrev store_at : tie.After-unlist → tie.After-store-more
store_at c = c.before.before.before.before

abbrev start : tie.After-unlist → tie.Start
start c = (store_at c).before.before.before

change-total-requires : tie.Need-change_total-requires
change-total-requires c κs =
    let u = c.before.before.before in
    let b = store_at u in
    let s = start u in
    let kept = total_kept _ _ _ _ _ _ b.store-more.ensures.0 u.unlist.ensures s.requires.0 (λ i. omega (arith, b.slice_known-1.given i)) in
    omega (
      arith,
      list_inside _ _ s.requires.0,
      kept,
      b.store-more.ensures.1,
      s.requires.1.1,
      one_more s.args.g s.args.key s.args.part.now,
      most-max _ s.requires.0.fine,
      (head-fits _ _ (key_fits _ _ _ s.requires.1.0.fits).0).total,
    )

returns : tie.Need-returns
returns c =
    let u = c.before.before.before.before.before.before in
    let b = (store_at u).store-more.ensures in
    total-changed _ _ _ _ _ _ b.0 u.unlist.ensures _ _ _ b.1 c.change_total.ensures

pub store_unlisted_spec : {M : Type 1} → statement M
store_unlisted_spec = tie.close (tie.spec (λ c κs. search rules) unlist-requires change-total-requires (λ c. search rules) returns)
