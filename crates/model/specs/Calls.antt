-- "The six calls", count, text and drop: what each answers and leaves, on areas of any length and content, and a whole list of them.
use Rattle.std.specs.Prelude.{ℕ, cond, List, [], ◌∷◌, length, Option, None, Some}
use Rattle.std.proofs.lemmas.List.Edits.{sets}
use Rattle.model.specs.Bytes.{within}
use Rattle.model.specs.Geometry.{stride, partition_at}
use Rattle.model.specs.Opening.{geometry_of}
use Rattle.model.specs.Keys.{partition_of}
use Rattle.model.specs.Partition.{partition, total_of}
use Rattle.model.specs.Answers.{Areas, Refusal, Stretch, in_memory, bytes_in, Answer, done, found, absent, shown, refused}
use Rattle.model.specs.Refusals.{unopened}
use Rattle.model.specs.Format.{format_checks, formatted}
use Rattle.model.specs.Flush.{flush_checks, flush_in, with_batch}
use Rattle.model.specs.Put.{due, put_checks, put_in}
use Rattle.model.specs.Get.{get_checks, sought}
use Rattle.model.specs.Del.{del_checks, deleted}
use Rattle.model.specs.View.{view_checks, viewed}
use Rattle.model.specs.Count.{count_checks}
use Rattle.model.specs.PartitionText.{partition_text, text_checks}
use Rattle.model.specs.Drop.{drop_checks, drop_in}
use Rattle.model.specs.declared.Geometry.{Geometry}

--     format geometry, put key value, get key, del key, flush partition, view partition page flush-number, count partition, text partition room, drop partition
pub data Call : Type 0 where
  format : Geometry → Call
  put : ℕ → ℕ → Call
  get : ℕ → Call
  del : ℕ → Call
  flush : ℕ → Call
  view : ℕ → ℕ → ℕ → Call
  count : ℕ → Call
  text : ℕ → ℕ → Call
  drop : ℕ → Call

-- the geometry that memory opens with, and a partition's bytes
abbrev pub geometry_in : Areas → Geometry
geometry_in a = geometry_of a.memory

abbrev pub partition_in : Areas → ℕ → List ℕ
partition_in a t = partition (geometry_in a) t a.memory

abbrev pub key_partition : Areas → ℕ → List ℕ
key_partition a k = partition_in a (partition_of (geometry_in a) k)

-- the text of partition t
abbrev pub text_in : Areas → ℕ → List ℕ
text_in a t = partition_text (geometry_in a) t (partition_in a t) a.flash

-- the refusals that are decided before anything is answered or written, in their order
unfoldable pub checks : Areas → Call → Option Refusal
checks a (format g) = format_checks g a
checks a (put k v) = unopened a (put_checks (geometry_in a) k v (key_partition a k) a.flash)
checks a (get k) = unopened a (get_checks (geometry_in a) k (key_partition a k))
checks a (del k) = unopened a (del_checks (geometry_in a) k (key_partition a k))
checks a (flush t) = unopened a (flush_checks (geometry_in a) t (partition_in a t) a.flash)
checks a (view t q n) = unopened a (view_checks (geometry_in a) t q n (partition_in a t))
checks a (count t) = unopened a (count_checks (geometry_in a) t (partition_in a t))
checks a (text t room) = unopened a (text_checks (geometry_in a) t room (partition_in a t) a.flash)
checks a (drop t) = unopened a (drop_checks (geometry_in a) t (partition_in a t) a.flash)

-- what a call answers that none of them stops; the 13 of get and view may still come
unfoldable pub result : Areas → Call → Answer
result a (format g) = done 0
result a (put k v) = done (cond (due (geometry_in a) k (key_partition a k)) (geometry_in a).pages 0)
result a (get k) = sought (geometry_in a) k (key_partition a k) a.flash
result a (del k) = done 0
result a (flush t) = done (geometry_in a).pages
result a (view t q n) = viewed (geometry_in a) t q n a.flash
result a (count t) = done (total_of (partition_in a t))
result a (text t room) = done (length (text_in a t))
result a (drop t) = done 0

abbrev pub reply_if : Option Refusal → Answer → Answer
reply_if (Some r) x = refused r.number r.reads
reply_if None x = x

-- what a call answers
unfoldable pub reply : Areas → Call → Answer
reply a c = reply_if (checks a c) (result a c)

-- both areas with partition t of memory changed by f
abbrev pub changed : Areas → ℕ → (List ℕ → List ℕ) → List ℕ → Areas
changed a t f flash = record { memory = within (partition_at (geometry_in a) t) (stride (geometry_in a)) f a.memory; flash = flash }

abbrev pub flash_after : Areas → ℕ → List ℕ
flash_after a t = with_batch (geometry_in a) t (partition_in a t) (geometry_in a).pages a.flash

-- what an accepted call leaves
unfoldable pub effect : Areas → Call → Areas
effect a (format g) = record { memory = formatted g a.memory; flash = a.flash }
effect a (put k v) =
    changed a (partition_of (geometry_in a) k) (put_in (geometry_in a) k v a.flash)
    (cond (due (geometry_in a) k (key_partition a k)) (flash_after a (partition_of (geometry_in a) k)) a.flash)
effect a (get k) = a
effect a (del k) = changed a (partition_of (geometry_in a) k) (deleted (geometry_in a) k) a.flash
effect a (flush t) = changed a t (flush_in (geometry_in a) t a.flash) (flash_after a t)
effect a (view t q n) = a
effect a (count t) = a
effect a (text t room) = a
effect a (drop t) = changed a t (drop_in (geometry_in a) t a.flash) a.flash

-- a refused call changes no byte
abbrev pub unless_refused : {A : Type 0} → Answer → A → A → A
unless_refused (refused n r) before later = before
unless_refused (done n) before later = later
unless_refused (found v c p) before later = later
unless_refused (absent c) before later = later
unless_refused (shown s) before later = later

-- what a call leaves
unfoldable pub after : Areas → Call → Areas
after a c = unless_refused (reply a c) a (effect a c)

-- the bytes that a view shows: of a refused one, an empty part of memory
abbrev pub part_shown : Answer → Stretch
part_shown (shown s) = s
part_shown (refused n r) = in_memory 0 0
part_shown (done n) = in_memory 0 0
part_shown (found v c p) = in_memory 0 0
part_shown (absent c) = in_memory 0 0

unfoldable pub bytes_shown : Areas → ℕ → ℕ → ℕ → List ℕ
bytes_shown a t q n = bytes_in a (part_shown (reply a (view t q n)))

-- what a text leaves in the text area that it was lent: surplus bytes stay, and a refused one changes no byte
unfoldable pub text_left : Areas → ℕ → List ℕ → List ℕ
text_left a t xs = unless_refused (reply a (text t (length xs))) xs (sets xs 0 (text_in a t))

-- Each call gets both areas as the last one left them.
unfoldable pub run : Areas → List Call → Areas
run a [] = a
run a (c ∷ cs) = run (after a c) cs

unfoldable pub replies : Areas → List Call → List Answer
replies a [] = []
replies a (c ∷ cs) = reply a c ∷ replies (after a c) cs
