-- Laws of a call's answer and effect: on a table the calls speak of its geometry and the common checks stop nothing; what a refusal leaves; and which refusal is given where there is no table.
use Prim.Native.Nat.{ℕ, ◌≤◌, ◌<◌}
use mathlib.Core.Bool.{Bool, true, false, cond, not, ◌||◌}
use mathlib.Core.Path.{◌≡◌, refl, sym, ◌∙◌}
use mathlib.Core.List.{List}
use Rattle.std.specs.Prelude.{Option, None, Some}
use native.Mathlib.Omega.{arith}
use lib.Dec.{eqb, ltb}
use lib.ListN.{length}
use lib.Seq.{sets}
use borrow.Author.Tests.{ltb-false, lt-ltb, le-ltb, eqb-true, eq-eqb, ne_eqb, not-false}
use Rattle.model.specs.declared.Geometry.{Geometry}
use Rattle.model.specs.Bytes.{within}
use Rattle.model.specs.Geometry.{allowed, stride, partition_at, memory_need, flash_need}
use Rattle.model.specs.Opening.{eighth}
use Rattle.model.specs.Keys.{partition_of}
use Rattle.model.specs.Partition.{partition, total_of}
use Rattle.model.specs.Answers.{Areas, Refusal, unread, Answer, done, found, absent, shown, refused}
use Rattle.model.specs.Refusals.{refuse_if, unopened}
use Rattle.model.specs.Format.{format_checks, formatted}
use Rattle.model.specs.Flush.{flush_checks, flush_in, with_batch}
use Rattle.model.specs.Put.{due, put_checks, put_in}
use Rattle.model.specs.Get.{get_checks, sought}
use Rattle.model.specs.Del.{del_checks, deleted}
use Rattle.model.specs.View.{view_checks, page_shown, viewed}
use Rattle.model.specs.Count.{count_checks}
use Rattle.model.specs.PartitionText.{partition_text, text_checks}
use Rattle.model.specs.Drop.{drop_checks, drop_in}
use Rattle.model.specs.Calls.{Call, format, put, get, del, flush, view, count, text, drop, geometry_in, key_partition, checks, result, reply, effect, unless_refused, after, text_left}
use Rattle.model.proofs.Tests.{neither}
use Rattle.model.proofs.Checks.{refuse-none}
use Rattle.model.proofs.KeyedChecks.{position-not-0, put-accepted}

-- ---- 2, 11, 2, 3: what passing them gives, and what it takes
module _ (a : Areas) where
  pub record Opened : Type 0 where
    pub long : 32 ≤ length a.memory
    pub fine : allowed (geometry_in a) ≡ true
    pub eighth_zero : eighth a.memory ≡ 0
    pub memory_fits : memory_need (geometry_in a) ≤ length a.memory
    pub flash_fits : flash_need (geometry_in a) ≤ length a.flash

  pub opens : Opened → (later : Option Refusal) → unopened a later ≡ later
  unfolding unopened
  opens o later = rw (le-ltb _ _ o.long, o.fine, eq-eqb _ _ o.eighth_zero, le-ltb _ _ o.memory_fits, le-ltb _ _ o.flash_fits)

  pub opened : (later : Option Refusal) → unopened a later ≡ None → Opened
  unfolding unopened
  opened later e =
      let one = refuse-none (ltb (length a.memory) 32) 2 _ e in
      let two = refuse-none (not (allowed (geometry_in a)) || not (eqb (eighth a.memory) 0)) 11 _ one.1 in
      let three = refuse-none (ltb (length a.memory) (memory_need (geometry_in a))) 2 _ two.1 in
      let four = refuse-none (ltb (length a.flash) (flash_need (geometry_in a))) 3 later three.1 in
      let numbers = neither (not (allowed (geometry_in a))) (not (eqb (eighth a.memory) 0)) two.0 in
      record {
        long = ltb-false _ _ one.0;
        fine = not-false _ numbers.0;
        eighth_zero = eqb-true _ _ (not-false _ numbers.1);
        memory_fits = ltb-false _ _ three.0;
        flash_fits = ltb-false _ _ four.0;
      }

  pub later-passed : (later : Option Refusal) → unopened a later ≡ None → later ≡ None
  later-passed later e = sym (opens (opened later e) later) ∙ e

  -- which of them refuses
  module _ (later : Option Refusal) where
    pub opening-2 : length a.memory < 32 → unopened a later ≡ Some (unread 2)
    unfolding unopened
    opening-2 l = rw (lt-ltb _ _ l)

    module _ (long : 32 ≤ length a.memory) where
      pub opening-11 : allowed (geometry_in a) ≡ false → unopened a later ≡ Some (unread 11)
      unfolding unopened
      opening-11 e = rw (le-ltb _ _ long, e)

      module _ (fine : allowed (geometry_in a) ≡ true) where
        pub opening-11-eighth : (eighth a.memory ≡ 0 → ⊥) → unopened a later ≡ Some (unread 11)
        unfolding unopened
        opening-11-eighth e = rw (le-ltb _ _ long, fine, ne_eqb _ _ e)

        module _ (unset : eighth a.memory ≡ 0) where
          pub opening-2-need : length a.memory < memory_need (geometry_in a) → unopened a later ≡ Some (unread 2)
          unfolding unopened
          opening-2-need l = rw (le-ltb _ _ long, fine, eq-eqb _ _ unset, lt-ltb _ _ l)

          pub opening-3 : memory_need (geometry_in a) ≤ length a.memory → length a.flash < flash_need (geometry_in a) → unopened a later ≡ Some (unread 3)
          unfolding unopened
          opening-3 m l = rw (le-ltb _ _ long, fine, eq-eqb _ _ unset, le-ltb _ _ m, lt-ltb _ _ l)

-- what those checks refuse they refuse whatever comes later, before any page is read
abbrev Stays : (Option Refusal → Option Refusal) → Refusal → Type 0
Stays chain r = (r ≡ unread r.number) × (r.number ≡ 0 → ⊥) × ((later : Option Refusal) → chain later ≡ Some r)

stays : (x y z w : Bool) (r : Refusal) → refuse_if x 2 (refuse_if y 11 (refuse_if z 2 (refuse_if w 3 None))) ≡ Some r
    → Stays (λ later. refuse_if x 2 (refuse_if y 11 (refuse_if z 2 (refuse_if w 3 later)))) r
stays true y z w r e = let d : unread 2 ≡ r = cc in rw (← d) (refl, (λ q. omega arith), λ later. refl)
stays false true z w r e = let d : unread 11 ≡ r = cc in rw (← d) (refl, (λ q. omega arith), λ later. refl)
stays false false true w r e = let d : unread 2 ≡ r = cc in rw (← d) (refl, (λ q. omega arith), λ later. refl)
stays false false false true r e = let d : unread 3 ≡ r = cc in rw (← d) (refl, (λ q. omega arith), λ later. refl)
stays false false false false r e = let z : ◌≡◌ {A = ℕ} 0 1 = cc in absurd (omega arith)

pub unopened-stays : (a : Areas) (r : Refusal) → unopened a None ≡ Some r → Stays (unopened a) r
unfolding unopened
unopened-stays a r e =
    stays (ltb (length a.memory) 32) (not (allowed (geometry_in a)) || not (eqb (eighth a.memory) 0)) (ltb (length a.memory) (memory_need (geometry_in a)))
    (ltb (length a.flash) (flash_need (geometry_in a))) r e

-- every call but format begins with them
abbrev pub Opens : Call → Type 0
Opens (format g) = ⊥
Opens (put k v) = Unit {0}
Opens (get k) = Unit {0}
Opens (del k) = Unit {0}
Opens (flush t) = Unit {0}
Opens (view t q n) = Unit {0}
Opens (count t) = Unit {0}
Opens (text t room) = Unit {0}
Opens (drop t) = Unit {0}

pub stopped : (a : Areas) (r : Refusal) → ((later : Option Refusal) → unopened a later ≡ Some r) → (c : Call) → Opens c → checks a c ≡ Some r
unfolding checks
stopped a r always (format g) o = absurd o
stopped a r always (put k v) o = always _
stopped a r always (get k) o = always _
stopped a r always (del k) o = always _
stopped a r always (flush t) o = always _
stopped a r always (view t q n) o = always _
stopped a r always (count t) o = always _
stopped a r always (text t room) o = always _
stopped a r always (drop t) o = always _

-- a put of 0 is accepted on no areas
pub put-not-0 : (a : Areas) (k : ℕ) → checks a (put k 0) ≡ None → ⊥
unfolding checks
put-not-0 a k e = position-not-0 0 (put-accepted (geometry_in a) k (key_partition a k) 0 a.flash (later-passed a _ e)).0 refl

-- ---- on areas with this geometry
pub checks-format : (a : Areas) (g : Geometry) → checks a (format g) ≡ format_checks g a
unfolding checks
checks-format a g = refl

module _ (a : Areas) (g : Geometry) (own : geometry_in a ≡ g) where
  module _ (opens : (later : Option Refusal) → unopened a later ≡ later) where
    pub checks-put : (k v : ℕ) → checks a (put k v) ≡ put_checks g k v (partition g (partition_of g k) a.memory) a.flash
    unfolding checks
    checks-put k v = opens _ ∙ rw own

    pub checks-get : (k : ℕ) → checks a (get k) ≡ get_checks g k (partition g (partition_of g k) a.memory)
    unfolding checks
    checks-get k = opens _ ∙ rw own

    pub checks-del : (k : ℕ) → checks a (del k) ≡ del_checks g k (partition g (partition_of g k) a.memory)
    unfolding checks
    checks-del k = opens _ ∙ rw own

    pub checks-flush : (t : ℕ) → checks a (flush t) ≡ flush_checks g t (partition g t a.memory) a.flash
    unfolding checks
    checks-flush t = opens _ ∙ rw own

    pub checks-view : (t q n : ℕ) → checks a (view t q n) ≡ view_checks g t q n (partition g t a.memory)
    unfolding checks
    checks-view t q n = opens _ ∙ rw own

    pub checks-count : (t : ℕ) → checks a (count t) ≡ count_checks g t (partition g t a.memory)
    unfolding checks
    checks-count t = opens _ ∙ rw own

    pub checks-text : (t room : ℕ) → checks a (text t room) ≡ text_checks g t room (partition g t a.memory) a.flash
    unfolding checks
    checks-text t room = opens _ ∙ rw own

    pub checks-drop : (t : ℕ) → checks a (drop t) ≡ drop_checks g t (partition g t a.memory) a.flash
    unfolding checks
    checks-drop t = opens _ ∙ rw own

  pub result-put : (k v : ℕ) (b : Bool) → due g k (partition g (partition_of g k) a.memory) ≡ b → result a (put k v) ≡ done (cond b g.pages 0)
  unfolding result
  result-put k v b e = rw (own, e)

  pub result-get : (k : ℕ) → result a (get k) ≡ sought g k (partition g (partition_of g k) a.memory) a.flash
  unfolding result
  result-get k = rw own

  pub result-flush : (t : ℕ) → result a (flush t) ≡ done g.pages
  unfolding result
  result-flush t = rw own

  pub result-view : (t q n : ℕ) → result a (view t q n) ≡ viewed g t q n a.flash
  unfolding result
  result-view t q n = rw own

  pub result_count : (t : ℕ) → result a (count t) ≡ done (total_of (partition g t a.memory))
  unfolding result
  result_count t = rw own

  pub result-text : (t room : ℕ) → result a (text t room) ≡ done (length (partition_text g t (partition g t a.memory) a.flash))
  unfolding result
  result-text t room = rw own

  -- the text area after an accepted text, and after a refused one
  pub text-written : (t : ℕ) (xs : List ℕ) → reply a (text t (length xs)) ≡ done (length (partition_text g t (partition g t a.memory) a.flash))
      → text_left a t xs ≡ sets xs 0 (partition_text g t (partition g t a.memory) a.flash)
  unfolding text_left
  text-written t xs e = rw (e, own)

  -- partition t of memory changed by f, and flash
  abbrev pub changed_at : ℕ → (List ℕ → List ℕ) → List ℕ → Areas
  changed_at t f flash = record { memory = within (partition_at g t) (stride g) f a.memory; flash = flash }

  pub effect-put : (k v : ℕ) (b : Bool) → due g k (partition g (partition_of g k) a.memory) ≡ b → effect a (put k v)
      ≡ changed_at (partition_of g k) (put_in g k v a.flash) (cond b (with_batch g (partition_of g k) (partition g (partition_of g k) a.memory) g.pages a.flash) a.flash)
  unfolding effect
  effect-put k v b e = rw (own, e)

  pub effect-del : (k : ℕ) → effect a (del k) ≡ changed_at (partition_of g k) (deleted g k) a.flash
  unfolding effect
  effect-del k = rw own

  pub effect-flush : (t : ℕ) → effect a (flush t) ≡ changed_at t (flush_in g t a.flash) (with_batch g t (partition g t a.memory) g.pages a.flash)
  unfolding effect
  effect-flush t = rw own

  pub effect-drop : (t : ℕ) → effect a (drop t) ≡ changed_at t (drop_in g t a.flash) a.flash
  unfolding effect
  effect-drop t = rw own

pub result-del : (a : Areas) (k : ℕ) → result a (del k) ≡ done 0
unfolding result
result-del a k = refl

pub result-drop : (a : Areas) (t : ℕ) → result a (drop t) ≡ done 0
unfolding result
result-drop a t = refl

pub result-format : (a : Areas) (g : Geometry) → result a (format g) ≡ done 0
unfolding result
result-format a g = refl

pub effect-format : (a : Areas) (g : Geometry) → effect a (format g) ≡ record { memory = formatted g a.memory; flash = a.flash }
unfolding effect
effect-format a g = refl

pub effect-get : (a : Areas) (k : ℕ) → effect a (get k) ≡ a
unfolding effect
effect-get a k = refl

pub effect-view : (a : Areas) (t q n : ℕ) → effect a (view t q n) ≡ a
unfolding effect
effect-view a t q n = refl

pub effect-count : (a : Areas) (t : ℕ) → effect a (count t) ≡ a
unfolding effect
effect-count a t = refl

pub effect-text : (a : Areas) (t room : ℕ) → effect a (text t room) ≡ a
unfolding effect
effect-text a t room = refl

pub text-unwritten : (a : Areas) (t : ℕ) (xs : List ℕ) (n r : ℕ) → reply a (text t (length xs)) ≡ refused n r → text_left a t xs ≡ xs
unfolding text_left
text-unwritten a t xs n r e = rw e

-- a view of the buffer, or of a batch
pub viewed-page : (g : Geometry) (t q n : ℕ) (f : List ℕ) → viewed g t q n f ≡ page_shown (eqb n 0) g t q n f
unfolding viewed
viewed-page g t q n f = refl

-- ---- refused, or not
pub unless-same : (x : Answer) (a : Areas) → unless_refused x a a ≡ a
unless-same (done n) a = refl
unless-same (found v r p) a = refl
unless-same (absent r) a = refl
unless-same (shown s) a = refl
unless-same (refused n r) a = refl

module _ (a : Areas) (c : Call) where
  pub refused-unchanged : (n r : ℕ) → reply a c ≡ refused n r → after a c ≡ a
  unfolding after
  refused-unchanged n r e = rw e

  module _ (r : Refusal) (e : checks a c ≡ Some r) where
    pub reply-refused : reply a c ≡ refused r.number r.reads
    unfolding reply
    reply-refused = rw e

    pub after-refused : after a c ≡ a
    after-refused = refused-unchanged r.number r.reads reply-refused

  module _ (e : checks a c ≡ None) where
    pub reply-accepted : reply a c ≡ result a c
    unfolding reply
    reply-accepted = rw e

    pub after-accepted : after a c ≡ unless_refused (result a c) a (effect a c)
    unfolding after
    after-accepted = rw reply-accepted

    pub after-done : (n : ℕ) → result a c ≡ done n → after a c ≡ effect a c
    after-done n d = after-accepted ∙ rw d

  -- a call without effect leaves both areas, whatever it answers
  pub after_same : effect a c ≡ a → after a c ≡ a
  unfolding after
  after_same e = rw e (unless-same (reply a c) a)
