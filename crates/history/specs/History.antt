-- "The history rule": what is known of a table from the calls' arguments, from which of them were refused, and from the pages that puts wrote.
use Rattle.std.specs.Prelude.{ℕ, ◌+◌, ◌-◌, min, cond, List, [], ◌∷◌, eqb, ltb, Option, None, Some}
use Rattle.model.specs.declared.Geometry.{Geometry}
use Rattle.model.specs.Keys.{partition_of}
use Rattle.model.specs.Answers.{Areas, Answer, done, found, absent, shown, refused}
use Rattle.model.specs.Calls.{Call, format, put, get, del, flush, view, count, text, drop, reply, after}

-- of a key: its value and its age
pub record Known : Type 0 where
  pub value : ℕ
  pub age : ℕ

-- It holds a value and an age for some keys, a live number for each partition, and two totals, puts and put pages.
-- The geometry is that of the latest accepted format: s, Q, E and K.
pub record History : Type 0 where
  pub geometry : Geometry
  pub keys : ℕ → Option Known
  pub live : ℕ → ℕ
  pub puts : ℕ
  pub put_pages : ℕ

-- Accepted format: no keys, all numbers 0; its s, Q, E and K hold from here.
abbrev pub blank : Geometry → History
blank g = record { geometry = g; keys = λ k. None; live = λ t. 0; puts = 0; put_pages = 0 }

-- a key that ages by 1, and is forgotten above age K
unfoldable pub older : ℕ → Option Known → Option Known
older kept None = None
older kept (Some w) = cond (ltb kept (w.age + 1)) None (Some (record { value = w.value; age = w.age + 1 }))

-- A flush of a partition: each of its keys ages by 1, and those above age K are forgotten; its live number rises by 1, up to K.
abbrev pub aged : ℕ → History → History
aged t h = record {
  geometry = h.geometry;
  keys = λ k. cond (eqb (partition_of h.geometry k) t) (older h.geometry.kept (h.keys k)) (h.keys k);
  live = λ u. cond (eqb u t) (min h.geometry.kept (h.live u + 1)) (h.live u);
  puts = h.puts;
  put_pages = h.put_pages;
}

-- a key, unless it is of this age
unfoldable pub unless_aged : ℕ → Option Known → Option Known
unless_aged age None = None
unless_aged age (Some w) = cond (eqb w.age age) None (Some w)

-- Document 02: "an accepted drop forgets the partition's keys whose age is the live number, then lowers that number by 1."
abbrev pub lowered : ℕ → History → History
lowered t h = record {
  geometry = h.geometry;
  keys = λ k. cond (eqb (partition_of h.geometry k) t) (unless_aged (h.live t) (h.keys k)) (h.keys k);
  live = λ u. cond (eqb u t) (h.live u - 1) (h.live u);
  puts = h.puts;
  put_pages = h.put_pages;
}

-- the key with a value and an age, or forgotten
abbrev pub with_key : ℕ → Option Known → History → History
with_key k w h = record {
  geometry = h.geometry;
  keys = λ j. cond (eqb j k) w (h.keys j);
  live = h.live;
  puts = h.puts;
  put_pages = h.put_pages;
}

-- Puts rise by 1, put pages by the pages written.
abbrev pub counted : ℕ → History → History
counted n h = record { geometry = h.geometry; keys = h.keys; live = h.live; puts = h.puts + 1; put_pages = h.put_pages + n }

-- What the history is fed: the calls' arguments and, of their answers, only whether a call was refused and how many pages a put wrote.
--     accepted: formatted geometry, putting key value pages, deleting key, flushing partition, dropping partition, looking (get, view, count, text)
--     refused: turned_down
pub data Event : Type 0 where
  formatted : Geometry → Event
  putting : ℕ → ℕ → ℕ → Event
  deleting : ℕ → Event
  flushing : ℕ → Event
  dropping : ℕ → Event
  looking : Event
  turned_down : Event

-- of an accepted call, that wrote n pages
abbrev pub accepted : Call → ℕ → Event
accepted (format g) n = formatted g
accepted (put k v) n = putting k v n
accepted (get k) n = looking
accepted (del k) n = deleting k
accepted (flush t) n = flushing t
accepted (view t q m) n = looking
accepted (count t) n = looking
accepted (text t room) n = looking
accepted (drop t) n = dropping t

abbrev pub heard : Call → Answer → Event
heard c (done n) = accepted c n
heard c (found v t p) = accepted c 0
heard c (absent t) = accepted c 0
heard c (shown s) = accepted c 0
heard c (refused n r) = turned_down

-- Accepted put: if it wrote pages, first the flush rule for its key's partition. Then the key has the new value and age 0.
-- Accepted del: the key is forgotten. get, view, count, text and every refused call: nothing.
unfoldable pub note : History → Event → History
note h (formatted g) = blank g
note h (putting k v n) =
    counted n (with_key k (Some (record { value = v; age = 0 })) (cond (eqb n 0) h (aged (partition_of h.geometry k) h)))
note h (deleting k) = with_key k None h
note h (flushing t) = aged t h
note h (dropping t) = lowered t h
note h looking = h
note h turned_down = h

unfoldable pub remember : History → List Event → History
remember h [] = h
remember h (e ∷ es) = remember (note h e) es

-- what a list of calls tells; each call gets both areas as the last one left them
unfoldable pub events : Areas → List Call → List Event
events a [] = []
events a (c ∷ cs) = heard c (reply a c) ∷ events (after a c) cs
