-- A text that is accepted, on any areas of bytes, tells what gets of the partition's keys find.
use Prim.Native.Nat.{ℕ, ◌+◌, ◌≤◌, ◌<◌}
use mathlib.Core.Bool.{true, false, cond}
use mathlib.Core.Path.{◌≡◌, refl, sym, ◌∙◌, ap}
use mathlib.Core.List.{List, [], ◌∷◌}
use Rattle.std.specs.Prelude.{None}
use native.Mathlib.Omega.{arith}
use lib.Dec.{eqb}
use borrow.Author.Tests.{eqb-true, eq-eqb}
use Rattle.model.specs.declared.Geometry.{Geometry}
use Rattle.model.specs.Geometry.{partition_at, stride, buffer_at, slot_page_at}
use Rattle.model.specs.Keys.{partition_of, page_of}
use Rattle.model.specs.Records.{key_at}
use Rattle.model.specs.Page.{count_of, value_at}
use Rattle.model.specs.Partition.{head_of, flushes_of, live_of, slot}
use Rattle.model.specs.Answers.{Areas, Place, buffer, batch, Answer, done, found, absent, shown, refused}
use Rattle.model.specs.Get.{sought}
use Rattle.model.specs.PartitionText.{joined, source, source_page, answers_with, entry_text, page_text, source_text, partition_text}
use Rattle.model.specs.Calls.{get, text, geometry_in, partition_in, checks, reply}
use Rattle.model.proofs.Tests.{either}
use Rattle.model.proofs.Parts.{mid-bytes}
use Rattle.model.proofs.Words.{word_lt}
use Rattle.model.proofs.Joining.{joined-empty, joined-one, entry-line, entry-none, page-text, source-text, partition-text}
use Rattle.model.proofs.Answering.{Standing, answers_with_lem, found-stands}
use Rattle.model.proofs.AnsweringOnce.{answers-once}
use Rattle.model.proofs.TextGets.{text-flushed, text-page, get-seeks, get-accepted}
use Rattle.history.specs.Claim.{is_refused, said}
use Rattle.history.specs.Telling.{AreBytes, value_said, Tells, TextTells}
use Rattle.history.proofs.FromFormat.{not-refused}
use Rattle.history.proofs.Putting.{Puts, puts_none, puts-same, puts-line, puts-joined, all_lines}

unrefused : (x : Answer) → ((n r : ℕ) → x ≡ refused n r → ⊥) → is_refused x ≡ false
unrefused (done n) never = refl
unrefused (found v c at) never = refl
unrefused (absent c) never = refl
unrefused (shown s) never = refl
unrefused (refused n r) never = absurd (never n r refl)

module _ (g : Geometry) (t : ℕ) (p f : List ℕ) where
  abbrev page_in : ℕ → ℕ → List ℕ
  page_in s q = source_page g t p f (source (head_of p) s) q

  abbrev Answers : ℕ → ℕ → ℕ → Type 0
  Answers s q i = answers_with g t p f (source (head_of p) s) q i ≡ true

  -- ---- what the text puts under a key: entry by entry, page by page, source by source
  abbrev of_entry : ℕ → ℕ → ℕ → ℕ → List ℕ
  of_entry s q i k = cond (answers_with g t p f (source (head_of p) s) q i) (cond (eqb (key_at (page_in s q) i) k) (value_at (page_in s q) i ∷ []) []) []

  abbrev of_page : ℕ → ℕ → ℕ → List ℕ
  of_page s q k = joined (count_of (page_in s q)) (λ i. of_entry s q (i + 1) k)

  abbrev of_source : ℕ → ℕ → List ℕ
  of_source s k = joined g.pages (λ q. of_page s q k)

  abbrev of_text : ℕ → List ℕ
  of_text k = joined (live_of p + 1) (λ s. of_source s k)

  module _ (bytes : (s q : ℕ) → AreBytes (page_in s q)) where
    puts-entry : (s q i : ℕ) → Puts (entry_text g t p f (source (head_of p) s) q i) (of_entry s q i)
    puts-entry s q i = either (answers_with g t p f (source (head_of p) s) q i)
        (λ e. rw (entry-line g t p f (source (head_of p) s) q i e) (puts-same (λ k. rw e) (puts-line _ _ (word_lt 8 (page_in s q) _ (bytes s q)) (word_lt 8 (page_in s q) _ (bytes s q)))))
        (λ e. rw (entry-none g t p f (source (head_of p) s) q i e) (puts-same (λ k. rw e) puts_none))

    puts-page : (s q : ℕ) → Puts (page_text g t p f (source (head_of p) s) q) (of_page s q)
    puts-page s q = rw (page-text g t p f (source (head_of p) s) q) (puts-joined _ _ (λ i. of_entry s q (i + 1)) (λ i l. puts-entry s q (i + 1)))

    puts-source : (s : ℕ) → Puts (source_text g t p f (source (head_of p) s)) (of_source s)
    puts-source s = rw (source-text g t p f (source (head_of p) s)) (puts-joined _ _ (of_page s) (λ q l. puts-page s q))

    puts-text : Puts (partition_text g t p f) of_text
    puts-text = rw (partition-text g t p f) (puts-joined _ _ of_source (λ s l. puts-source s))

  -- ---- for a key with no entry that answers, nothing; for one with such an entry, its value
  module _ (k : ℕ) where
    of_other : (s q i : ℕ) → (Answers s q i → key_at (page_in s q) i ≡ k → ⊥) → of_entry s q i k ≡ []
    of_other s q i never = either (answers_with g t p f (source (head_of p) s) q i)
        (λ e. either (eqb (key_at (page_in s q) i) k) (λ h. absurd (never e (eqb-true _ _ h))) (λ h. rw (e, h)))
        (λ e. rw e)

    of-page : (s q : ℕ) → ((i : ℕ) → Answers s q i → key_at (page_in s q) i ≡ k → ⊥) → of_page s q k ≡ []
    of-page s q never = joined-empty _ _ (λ i l. of_other s q (i + 1) (never (i + 1)))

    of-source : (s : ℕ) → ((q i : ℕ) → Answers s q i → key_at (page_in s q) i ≡ k → ⊥) → of_source s k ≡ []
    of-source s never = joined-empty _ _ (λ q l. of-page s q (never q))

    no_line : ((s q i : ℕ) → Answers s q i → key_at (page_in s q) i ≡ k → ⊥) → of_text k ≡ []
    no_line never = joined-empty _ _ (λ s l. of-source s (never s))

    module _ (flushed : live_of p ≤ flushes_of p) where
      module _ (v : ℕ) (stands : Standing g t p f k v) where
        once : (s q i : ℕ) → s ≤ live_of p → Answers s q i → key_at (page_in s q) i ≡ k → (s ≡ stands.source) × (q ≡ page_of g k) × (i ≡ stands.place + 1)
        once s q i l e key = answers-once g t p f flushed k s q i stands.source (page_of g k) (stands.place + 1) l stands.source_below e stands.answers key stands.key

        one_line : page_of g k < g.pages → of_text k ≡ v ∷ []
        one_line inside =
            joined-one _ (λ s. of_source s k) stands.source (omega (arith, stands.source_below)) (λ s l other. of-source s (λ q i e key. other (once s q i (omega arith) e key).0))
            ∙ joined-one _ (λ q. of_page stands.source q k) (page_of g k) inside (λ q l other. of-page stands.source q (λ i e key. other (once stands.source q i stands.source_below e key).1))
            ∙ joined-one _ (λ i. of_entry stands.source (page_of g k) (i + 1) k) stands.place stands.place_below
            (λ i l other. of_other stands.source (page_of g k) (i + 1) (λ e key. other (omega (arith, (once stands.source (page_of g k) (i + 1) stands.source_below e key).2))))
            ∙ rw (stands.answers, eq-eqb _ _ stands.key, stands.value)

      -- as a get says, which finds its key or not
      unfound : (x : Answer) → sought g k p f ≡ x → value_said (said x) ≡ [] → of_text k ≡ []
      unfound x e says_none = no_line (λ s q i answers key.
          let says = sym e ∙ ap (λ (j : ℕ). sought g j p f) (sym key) ∙ (answers_with_lem g t p f flushed (source (head_of p) s) q i answers).says in
          let z : [] ≡ value_at (page_in s q) i ∷ [] = sym says_none ∙ ap (λ (y : Answer). value_said (said y)) says in let clash : ◌≡◌ {A = ℕ} 0 1 = cc in omega arith)

      as_said : partition_of g k ≡ t → page_of g k < g.pages → (x : Answer) → sought g k p f ≡ x → of_text k ≡ value_said (said x)
      as_said own inside (found v c at) e = one_line v (found-stands g t p f flushed k v c at own e) inside
      as_said own inside (absent c) e = unfound (absent c) e refl
      as_said own inside (done n) e = unfound (done n) e refl
      as_said own inside (shown s) e = unfound (shown s) e refl
      as_said own inside (refused n r) e = unfound (refused n r) e refl

      elsewhere : (partition_of g k ≡ t → ⊥) → of_text k ≡ []
      elsewhere other = no_line (λ s q i e key. other (ap (partition_of g) (sym key) ∙ (answers_with_lem g t p f flushed (source (head_of p) s) q i e).partition))

-- ---- on areas of bytes on which a text is accepted
module _ (a : Areas) (memory : AreBytes a.memory) (flash : AreBytes a.flash) (t room : ℕ) (passed : checks a (text t room) ≡ None) where
  abbrev g : Geometry
  g = geometry_in a

  abbrev p : List ℕ
  p = partition_in a t

  page-bytes : (at : Place) (q : ℕ) → AreBytes (source_page g t p a.flash at q)
  page-bytes buffer q = mid-bytes (buffer_at g q) g.page p (mid-bytes (partition_at g t) (stride g) a.memory memory)
  page-bytes (batch n) q = mid-bytes (slot_page_at g t (slot g n) q) g.page a.flash flash

  tells : Tells a t
  tells =
      let texts = puts-text g t p a.flash (λ s. page-bytes (source (head_of p) s)) in
      let flushed = text-flushed a t room passed in
      record {
        puts = texts.puts;
        lines = all_lines texts;
        accepted = λ k own. unrefused (reply a (get k)) (get-accepted a t room passed k own);
        found = λ k own. texts.each k ∙ as_said g t p a.flash k flushed own (text-page a t room passed k) (reply a (get k)) (sym (get-seeks a t room passed k own));
        others = λ k other. texts.each k ∙ elsewhere g t p a.flash k flushed other;
      }

pub text-tells : TextTells
unfolding TextTells
text-tells a memory flash t room accepted = tells a memory flash t room (not-refused a (text t room) accepted)
