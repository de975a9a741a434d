-- While areas and history are in step, the checks come down to those of the arguments and of what the table holds: 4, 14, 15, 16, 17, 21, 22, 23.
-- Refusals 2, 3, 11 and 12 do not come up, neither does the 12 that comes last, nor the 13 of a put, a flush, a drop or a text.
use Prim.Native.Nat.{ℕ, ◌^◌, ◌≤◌, ◌<◌}
use mathlib.Core.Bool.{true, false, not, ◌&&◌, ◌||◌, and-false}
use mathlib.Core.Path.{◌≡◌, ◌∙◌}
use mathlib.Core.List.{List}
use Rattle.std.specs.Prelude.{Option, None, Some}
use native.Mathlib.Omega.{arith}
use lib.Dec.{eqb, ltb}
use lib.ListN.{length}
use borrow.Author.Tests.{eqb-true}
use Rattle.model.specs.declared.Geometry.{Geometry}
use Rattle.model.specs.Geometry.{allowed, partitions}
use Rattle.model.specs.Keys.{partition_of, page_of}
use Rattle.model.specs.Partition.{partition, head_of, is_live}
use Rattle.model.specs.Answers.{Areas, Refusal, unread}
use Rattle.model.specs.Refusals.{refuse_if, unopened, head_overfull, key_overfull, some_page_overfull, last_flush}
use Rattle.model.specs.Put.{no_position, due, room_checks}
use Rattle.model.specs.PartitionText.{partition_text}
use Rattle.model.specs.Calls.{put, get, del, flush, view, count, text, drop, geometry_in, checks}
use Rattle.model.proofs.Sizes.{page-of-lt, partition-of-lt}
use Rattle.model.proofs.Tests.{numbers, either}
use Rattle.model.proofs.Heads.{fits_head}
use Rattle.model.proofs.Checks.{fits-page, fits-pages, fits-key, due-last, flush-4, flush-last, drop-4, drop-23, drop-read, count-4, count-passes, text-4, text-room, view-4, view-last}
use Rattle.model.proofs.KeyedChecks.{get-passes, room-undue, room-due, put-21, put-room, del-full}
use Rattle.model.proofs.Calls.{checks-put, checks-get, checks-del, checks-flush, checks-view, checks-count, checks-text, checks-drop}
use Rattle.history.specs.History.{History}
use Rattle.history.proofs.Table.{Part, in_use, must_list, due as due_in}
use Rattle.history.proofs.Core.{PartOk}
use Rattle.history.proofs.Totals.{all_most}
use Rattle.history.proofs.Shows.{ShowsPart, list_count}
use Rattle.history.proofs.Passing.{must-list-shown}
use Rattle.history.proofs.Totalling.{due-shown, use-shown, heads-shown, batches-shown, oldest-sound}
use Rattle.history.proofs.Ends.{Counted, flush-in, drop-in, put-in, flushed-put-in, del-in}
use Rattle.history.proofs.Areas.{shows-opens}
use Rattle.history.proofs.InStep.{InStep, counted-at}

module _ {a : Areas} {h : History} (inv : InStep a h) where
  abbrev g : Geometry
  g = h.geometry

  own : geometry_in a ≡ g
  own = inv.shows.geometry

  ok : allowed g ≡ true
  ok = inv.shows.ok

  opening : (later : Option Refusal) → unopened a later ≡ later
  opening = shows-opens a g inv.table inv.shows

  -- of a partition that there is
  module _ (t : ℕ) (below : t < partitions g) where
    abbrev p : List ℕ
    p = partition g t a.memory

    abbrev s : Part
    s = inv.table t

    at : ShowsPart g t p a.flash s
    at = inv.shows.part t below

    was : Counted g t p a.flash s
    was = counted-at a h inv t below

    part : PartOk g s
    part = inv.good.core.parts t

    head_ok : head_overfull g (head_of p) ≡ false
    head_ok = fits_head g (head_of p) (record {
      list = omega (arith, list_count at, part.list_fits);
      total = rw (inv.counted t below) (all_most g s part);
      kept = rw at.live part.live_kept;
      flushed = rw (at.live, at.flushes) part.live_flushed;
    })

    pages-ok : some_page_overfull g p ≡ false
    pages-ok = fits-pages g p (λ q l. (at.buffer q l).fits)

    -- its buffer is empty; or no flush number is left
    pub flush-checks : checks a (flush t) ≡ refuse_if (not (in_use g s)) 15 (refuse_if (eqb s.flushes last_flush) 16 None)
    flush-checks =
        checks-flush a g own opening t ∙ flush-last g t p a.flash below head_ok pages-ok
        ∙ rw (due-last g t 0 p a.flash (heads-shown g ok t p _ _ at part) (flush-in g ok t p _ _ was part), use-shown g ok t p _ s at, at.flushes)

    -- no batch is live
    pub drop-checks : checks a (drop t) ≡ refuse_if (eqb s.live 0) 23 None
    drop-checks = checks-drop a g own opening t ∙ either (eqb s.live 0)
        (λ e. drop-23 g t p a.flash below head_ok (at.live ∙ eqb-true _ _ e) ∙ rw e)
        (λ e.
        let any : 1 ≤ s.live = omega numbers in
        drop-read g t p a.flash below head_ok (omega (numbers, at.live)) ∙ rw (e, oldest-sound g ok t p _ _ at part any, drop-in g ok t p _ _ was part any))

    pub count-checks : checks a (count t) ≡ None
    count-checks = checks-count a g own opening t ∙ count-passes g t p below head_ok

    pub text-checks : (room : ℕ) → checks a (text t room) ≡ refuse_if (ltb room (length (partition_text g t p a.flash))) 22 None
    text-checks room =
        checks-text a g own opening t room ∙ text-room g t room p a.flash below head_ok pages-ok (batches-shown g ok t p _ _ at part)

    pub view-checks : (q n : ℕ) → q < g.pages → checks a (view t q n) ≡ refuse_if (not (eqb n 0) && not (is_live (head_of p) n)) 17 None
    view-checks q n l =
        checks-view a g own opening t q n ∙ view-last g t q n p below l head_ok (rw (fits-page g p q (at.buffer q l).fits) (and-false (eqb n 0)))

  -- and of another
  pub flush-out : (t : ℕ) → partitions g ≤ t → checks a (flush t) ≡ Some (unread 4)
  flush-out t l = checks-flush a g own opening t ∙ flush-4 g t _ a.flash l

  pub drop-out : (t : ℕ) → partitions g ≤ t → checks a (drop t) ≡ Some (unread 4)
  drop-out t l = checks-drop a g own opening t ∙ drop-4 g t _ a.flash l

  pub count-out : (t : ℕ) → partitions g ≤ t → checks a (count t) ≡ Some (unread 4)
  count-out t l = checks-count a g own opening t ∙ count-4 g t _ l

  pub text_out : (t room : ℕ) → partitions g ≤ t → checks a (text t room) ≡ Some (unread 4)
  text_out t room l = checks-text a g own opening t room ∙ text-4 g t room _ a.flash l

  pub view_out : (t q n : ℕ) → not (ltb t (partitions g)) || not (ltb q g.pages) ≡ true → checks a (view t q n) ≡ Some (unread 4)
  view_out t q n e = checks-view a g own opening t q n ∙ view-4 g t q n _ e

  -- of a key
  module _ (k : ℕ) (hk : k < 2 ^ 64) where
    abbrev t : ℕ
    t = partition_of g k

    abbrev here : Part
    here = inv.table t

    below : t < partitions g
    below = partition-of-lt g ok k hk

    abbrev bytes : List ℕ
    bytes = partition g t a.memory

    key-ok : key_overfull g k bytes ≡ false
    key-ok = fits-key g bytes k (head_ok t below) ((at t below).buffer (page_of g k) (page-of-lt g ok k)).fits

    pub get-checks : checks a (get k) ≡ None
    get-checks = checks-get a g own opening k ∙ get-passes g k _ key-ok

    -- a flush is due, and no flush number is left: whatever the value, so one stands for all
    pub room-checks : room_checks g k bytes a.flash ≡ refuse_if (due_in g k here && eqb here.flushes last_flush) 16 None
    room-checks =
        let f : List ℕ = a.flash in
        let is-due : due g k bytes ≡ due_in g k here = due-shown g ok t bytes f here (at t below) k in
        either (due_in g k here)
        (λ d. room-due g k bytes f key-ok (is-due ∙ d) (pages-ok t below)
        ∙ due-last g t 1 bytes f (heads-shown g ok t bytes f here (at t below) (part t below)) (flushed-put-in g ok t bytes f here (was t below) (part t below) k 0)
        ∙ rw (d, (at t below).flushes))
        (λ d. room-undue g k bytes f key-ok (is-due ∙ d) ∙ rw (put-in g ok t bytes f here (was t below) (part t below) k 0 d, d))

    -- or the value is no position
    pub put-checks : (v : ℕ) → checks a (put k v) ≡ refuse_if (no_position v) 21 (refuse_if (due_in g k here && eqb here.flushes last_flush) 16 None)
    put-checks v = checks-put a g own opening k v ∙ either (no_position v)
        (λ no. put-21 g k bytes v a.flash no ∙ rw no)
        (λ yes. put-room g k bytes v a.flash yes ∙ room-checks ∙ rw yes)

    -- the key must be listed, and no place is free
    pub del-checks : checks a (del k) ≡ refuse_if (must_list g k here && eqb (length here.list) g.list) 14 None
    del-checks =
        checks-del a g own opening k ∙ del-full g k bytes key-ok
        ∙ rw (del-in g ok t bytes a.flash here (was t below) (part t below) k, must-list-shown g ok t bytes _ here (at t below) k (part t below).live_flushed, list_count (at t below))
