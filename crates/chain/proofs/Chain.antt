-- Demand 3 about the calls themselves: their promises, one after another, are the definitions of the whole list.
use Prim.Native.Nat.{ℕ}
use mathlib.Core.Bool.{false}
use mathlib.Core.List.{List, [], ◌∷◌}
use mathlib.Core.Path.{◌≡◌, refl, sym, ◌∙◌, ap, ap₂}
use Rattle.model.specs.declared.Geometry.{Geometry}
use Rattle.model.specs.Answers.{Areas, Answer}
use Rattle.model.specs.Calls.{Call, format, reply, after, run, replies}
use Rattle.history.specs.History.{History, heard, remember, events}
use Rattle.history.specs.Claim.{is_refused, Demand3, Counts, CountsHeld}
use Rattle.history.specs.Moving.{AllMove, TextMoves}
use Rattle.history.proofs.Demand.{demand3}
use Rattle.history.proofs.Counting.{counts-held}
use Rattle.history.proofs.Moving.{text-moves}
use Rattle.answers.specs.Performs.{areas, Performs}
use Rattle.chain.specs.Chain.{Made, none, next, heard_of, CallsKeepDemand3}

chain-answers : {cs : List Call} {m f m' f' : List ℕ} {rs : List Answer} → Made Performs cs m f rs m' f' → rs ≡ replies (areas m f) cs
unfolding replies
chain-answers none = refl
chain-answers (next {cs = cs} p ps) = ap₂ ◌∷◌ p.answers (chain-answers ps ∙ ap (λ a. replies a cs) p.leaves)

pub chain-leaves : {cs : List Call} {m f m' f' : List ℕ} {rs : List Answer} → Made Performs cs m f rs m' f' → areas m' f' ≡ run (areas m f) cs
unfolding run
chain-leaves none = refl
chain-leaves (next {cs = cs} p ps) = chain-leaves ps ∙ ap (λ a. run a cs) p.leaves

heard-events : (cs : List Call) (a : Areas) → heard_of heard cs (replies a cs) ≡ events a cs
unfolding heard_of replies events
heard-events [] a = refl
heard-events (c ∷ cs) a = ap (λ es. heard c (reply a c) ∷ es) (heard-events cs (after a c))

pub chain-heard : {cs : List Call} {m f m' f' : List ℕ} {rs : List Answer} → Made Performs cs m f rs m' f' → heard_of heard cs rs ≡ events (areas m f) cs
chain-heard {cs = cs} {m = m} {f = f} ps = ap (heard_of heard cs) (chain-answers ps) ∙ heard-events cs (areas m f)

pub chain-opened : {g : Geometry} {cs : List Call} {m f m' f' : List ℕ} {r : Answer} {rs : List Answer} → Made Performs (format g ∷ cs) m f (r ∷ rs) m' f' → is_refused r ≡ false → is_refused (reply (areas m f) (format g)) ≡ false
chain-opened (next p ps) accepted = sym (ap is_refused p.answers) ∙ accepted

same-counts : {a a' : Areas} {h h' : History} → a' ≡ a → h' ≡ h → Counts a h → Counts a' h'
same-counts e e' held = rw (e, e') held

same-moves : {a a' : Areas} {h h' : History} → a' ≡ a → h' ≡ h → AllMove a h → AllMove a' h'
same-moves e e' held = rw (e, e') held

pub calls-keep-demand3 : CallsKeepDemand3
unfolding CallsKeepDemand3 Demand3 CountsHeld TextMoves
calls-keep-demand3 m f m' f' h g cs r rs made accepted fits =
    let left = chain-leaves made in
    let hears = ap (remember h) (chain-heard made) in
    let opened = chain-opened made accepted in (
      chain-answers made,
      record {
        leaves = left;
        holds = rw (left, hears) (demand3 (areas m f) h g opened cs fits);
        counts = same-counts left hears (counts-held (areas m f) h g opened cs fits);
        moves = same-moves left hears (text-moves (areas m f) h g opened cs fits);
      },
    )
