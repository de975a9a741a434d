-- What a card carries, beside demand 3: no calls go beyond its figures, and one list of puts reaches them (02, job 7).
use Rattle.std.specs.Prelude.{ℕ, zero, suc, ◌+◌, ◌%◌, ◌^◌, ◌≤◌, ◌<◌, false, cond, ◌≡◌, List, [], ◌∷◌, eqb, Option, None, Some}
use Rattle.model.specs.declared.Geometry.{Geometry}
use Rattle.model.specs.Geometry.{partitions}
use Rattle.model.specs.Card.{most_flushes, first_lost}
use Rattle.model.specs.Partition.{flushes_of}
use Rattle.model.specs.Batch.{sum}
use Rattle.model.specs.Answers.{Areas}
use Rattle.model.specs.Calls.{Call, format, put, get, del, flush, view, count, text, drop, geometry_in, partition_in, reply, run}
use Rattle.history.specs.History.{Event, formatted, putting, deleting, flushing, dropping, looking, turned_down, events}
use Rattle.history.specs.Claim.{AllFit, is_refused, said}

-- The calls of a list: puts, and between them every call but a flush and a drop, which would be asked for, and a format, which begins another table.
abbrev pub Between : Call → Type 0
Between (format g) = ⊥
Between (put k v) = Unit {0}
Between (get k) = Unit {0}
Between (del k) = Unit {0}
Between (flush t) = ⊥
Between (view t q n) = Unit {0}
Between (count t) = Unit {0}
Between (text t room) = Unit {0}
Between (drop t) = ⊥

abbrev pub AllBetween : List Call → Type 0
AllBetween [] = Unit {0}
AllBetween (c ∷ cs) = Between c × AllBetween cs

-- A put counts, refused or not.
abbrev pub puts_of : Call → ℕ
puts_of (format g) = 0
puts_of (put k v) = 1
puts_of (get k) = 0
puts_of (del k) = 0
puts_of (flush t) = 0
puts_of (view t q n) = 0
puts_of (count t) = 0
puts_of (text t room) = 0
puts_of (drop t) = 0

unfoldable pub puts_in : List Call → ℕ
puts_in [] = 0
puts_in (c ∷ cs) = puts_of c + puts_in cs

-- the flushes done, in all partitions together
unfoldable pub flushes_done : Areas → ℕ
flushes_done a = sum (partitions (geometry_in a)) (λ t. flushes_of (partition_in a t))

-- Of each key the value that was put last, and none where it was deleted since: a history that loses nothing.
abbrev pub given : (ℕ → Option ℕ) → Event → ℕ → Option ℕ
given d (formatted g) = λ k. None
given d (putting j v n) = λ k. cond (eqb k j) (Some v) (d k)
given d (deleting j) = λ k. cond (eqb k j) None (d k)
given d (flushing t) = d
given d (dropping t) = d
given d looking = d
given d turned_down = d

unfoldable pub last_put : (ℕ → Option ℕ) → List Event → ℕ → Option ℕ
last_put d [] = d
last_put d (e ∷ es) = last_put (given d e) es

-- of all that was heard, from nothing on
abbrev pub put_since : List Event → ℕ → Option ℕ
put_since es = last_put (λ k. None) es

-- No more flushes than so many puts can cause; and with fewer puts than can lose a key, a get of every key says what was put last.
pub record Within (g : Geometry) (cs : List Call) (b : Areas) (es : List Event) : Type 0 where
  pub flushes : flushes_done b ≤ most_flushes g (puts_in cs)
  pub kept : puts_in cs < first_lost g → (k : ℕ) → k < 2 ^ 64 → said (reply b (get k)) ≡ Some (put_since es k)

-- n puts of keys that share page 0 of partition 0 in every geometry: put i, from 0, has the key i mod 2^18.
unfoldable pub one_page_from : ℕ → ℕ → List Call
one_page_from i zero = []
one_page_from i (suc n) = put (i % 2 ^ 18) 1 ∷ one_page_from (suc i) n

abbrev pub one_page : ℕ → List Call
one_page n = one_page_from 0 n

abbrev pub NoneRefused : List Event → Type 0
NoneRefused [] = Unit {0}
NoneRefused (e ∷ es) = (e ≡ turned_down → ⊥) × NoneRefused es

-- The key is lost: it was put, with this value, and not deleted since, and a get says none.
pub record Lost (k v : ℕ) (b : Areas) (es : List Event) : Type 0 where
  pub last : put_since es k ≡ Some v
  pub gone : said (reply b (get k)) ≡ Some None

-- After n of them. Put (K + 1) × E + 1, which comes at 8416 at the latest, loses the key of the first.
pub record Reached (g : Geometry) (n : ℕ) (b : Areas) (es : List Event) : Type 0 where
  pub taken : NoneRefused es
  pub flushes : flushes_done b ≡ most_flushes g n
  pub lost : n ≡ first_lost g → Lost 0 1 b es

-- The calls cs, behind a format of g, left the areas b; es is what was heard of the format and of them.
pub record Carried (g : Geometry) (cs : List Call) (b : Areas) (es : List Event) : Type 0 where
  pub within : AllFit cs → AllBetween cs → Within g cs b es
  pub reached : (n : ℕ) → n < 2 ^ 32 → cs ≡ one_page n → Reached g n b es

-- Whatever the areas held when a format was accepted, and whichever calls came behind it.
unfoldable pub CardCarries : Type 0
CardCarries = (a : Areas) (g : Geometry) → is_refused (reply a (format g)) ≡ false
    → (cs : List Call) → Carried g cs (run a (format g ∷ cs)) (events a (format g ∷ cs))
