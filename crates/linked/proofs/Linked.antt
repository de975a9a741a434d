-- The calls of the C interface are the index's own, and what the history hears of a struct is what it hears of the answer in it.
use Prim.Native.Nat.{ℕ}
use mathlib.Core.Bool.{false}
use mathlib.Core.List.{List, [], ◌∷◌}
use Rattle.std.specs.Prelude.{Option, None, Some}
use mathlib.Core.Path.{◌≡◌, refl, sym, ◌∙◌, ap, ap₂}
use Rattle.model.specs.declared.Geometry.{Geometry}
use Rattle.model.specs.Answers.{Areas, Refusal, Answer, done, found, absent, shown, refused, in_memory, in_flash}
use Rattle.model.specs.Calls.{Call, format, put, get, del, flush, view, count, text, drop, checks, reply, after, replies}
use Rattle.model.proofs.Calls.{result-put, reply-refused, reply-accepted}
use Rattle.history.specs.History.{accepted, heard}
use Rattle.history.specs.Claim.{is_refused}
use Rattle.answers.specs.Performs.{areas, Performs}
use Rattle.chain.specs.Chain.{Made, none as no_more, next, heard_of, CallsKeepDemand3}
use Rattle.chain.proofs.Chain.{calls-keep-demand3}
use Rattle.exported.specs.declared.MxAnswer.{MxAnswer}
use Rattle.exported.specs.Exported.{exported, exported_text, exported_by}
use Rattle.mortxizal.specs.Exports.{Exports}
use Rattle.linked.specs.Linked.{is_refusal, heard_from, exported_all, LinkedCallsKeepDemand3}

-- Only of a put does the history hear a number, and a put shows no page: there `number` is a size.
unnumbered : (c : Call) → ((n m : ℕ) → accepted c n ≡ accepted c m) → (x : Answer) → heard_from c (exported x) ≡ heard c x
unnumbered c any (done n) = refl
unnumbered c any (found v t p) = refl
unnumbered c any (absent t) = refl
unnumbered c any (shown (in_memory at size)) = any size 0
unnumbered c any (shown (in_flash at size)) = any size 0
unnumbered c any (refused n r) = refl

put-heard : (a : Areas) (k v : ℕ) → heard_from (put k v) (exported (reply a (put k v))) ≡ heard (put k v) (reply a (put k v))
put-heard a k v = go (checks a (put k v)) refl
  where
    go : (o : Option Refusal) → checks a (put k v) ≡ o → heard_from (put k v) (exported (reply a (put k v))) ≡ heard (put k v) (reply a (put k v))
    go (Some r) e = rw (reply-refused a (put k v) r e)
    go None e = rw (reply-accepted a (put k v) e, result-put a _ refl k v _ refl)

text-heard : (t room : ℕ) (x : Answer) → heard_from (text t room) (exported_text x) ≡ heard (text t room) x
text-heard t room (done n) = refl
text-heard t room (found v c p) = refl
text-heard t room (absent c) = refl
text-heard t room (shown (in_memory at size)) = refl
text-heard t room (shown (in_flash at size)) = refl
text-heard t room (refused n r) = refl

call-heard : (a : Areas) (c : Call) → heard_from c (exported_by c (reply a c)) ≡ heard c (reply a c)
call-heard a (format g) = unnumbered (format g) (λ n m. refl) (reply a (format g))
call-heard a (put k v) = put-heard a k v
call-heard a (get k) = unnumbered (get k) (λ n m. refl) (reply a (get k))
call-heard a (del k) = unnumbered (del k) (λ n m. refl) (reply a (del k))
call-heard a (flush t) = unnumbered (flush t) (λ n m. refl) (reply a (flush t))
call-heard a (view t q n) = unnumbered (view t q n) (λ n m. refl) (reply a (view t q n))
call-heard a (count t) = unnumbered (count t) (λ n m. refl) (reply a (count t))
call-heard a (text t room) = text-heard t room (reply a (text t room))
call-heard a (drop t) = unnumbered (drop t) (λ n m. refl) (reply a (drop t))

-- ---- a list of them
made_told : {cs : List Call} {m f m' f' : List ℕ} {rs : List MxAnswer} → Made Exports cs m f rs m' f' → rs ≡ exported_all cs (replies (areas m f) cs)
unfolding exported_all replies
made_told no_more = refl
made_told (next {cs = cs} p ps) = ap₂ ◌∷◌ p.answers (made_told ps ∙ ap (λ a. exported_all cs (replies a cs)) p.leaves)

pub performed : {cs : List Call} {m f m' f' : List ℕ} {rs : List MxAnswer} → Made Exports cs m f rs m' f' → Made Performs cs m f (replies (areas m f) cs) m' f'
unfolding replies
performed no_more = no_more
performed (next p ps) = next (record { answers = refl; leaves = p.leaves }) (rw p.leaves at (performed ps))

all-heard : (cs : List Call) (a : Areas) → heard_of heard_from cs (exported_all cs (replies a cs)) ≡ heard_of heard cs (replies a cs)
unfolding heard_of exported_all replies
all-heard [] a = refl
all-heard (c ∷ cs) a = ap₂ ◌∷◌ (call-heard a c) (all-heard cs (after a c))

-- a format that the struct says was accepted
format-accepted : (x : Answer) → is_refusal (exported x) ≡ false → is_refused x ≡ false
format-accepted (done n) e = refl
format-accepted (found v t p) e = refl
format-accepted (absent t) e = refl
format-accepted (shown s) e = refl
format-accepted (refused n r) e = e

pub made-heard : {cs : List Call} {m f m' f' : List ℕ} {rs : List MxAnswer} → Made Exports cs m f rs m' f' → heard_of heard_from cs rs ≡ heard_of heard cs (replies (areas m f) cs)
made-heard {cs = cs} {m = m} {f = f} ps = ap (heard_of heard_from cs) (made_told ps) ∙ all-heard cs (areas m f)

pub made-opened : {g : Geometry} {cs : List Call} {m f m' f' : List ℕ} {r : MxAnswer} {rs : List MxAnswer} → Made Exports (format g ∷ cs) m f (r ∷ rs) m' f' → is_refusal r ≡ false → is_refused (reply (areas m f) (format g)) ≡ false
made-opened {g = g} {m = m} {f = f} (next p ps) opens = format-accepted (reply (areas m f) (format g)) (ap is_refusal (sym p.answers) ∙ opens)

pub linked-calls-keep-demand3 : LinkedCallsKeepDemand3
unfolding LinkedCallsKeepDemand3 CallsKeepDemand3 replies
linked-calls-keep-demand3 m f m' f' h g cs r rs made opens fits =
    let kept = calls-keep-demand3 m f m' f' h g cs _ _ (performed made) (made-opened made opens) fits in
    (made_told made, rw (made-heard made) kept.1)
