-- "Bench cases (P: proved)": what the definitions give, beside what the paper says. Then cases of document 02's jobs.
use Rattle.std.specs.Prelude.{ℕ, ◌≡◌, List, [], ◌∷◌, ◌++◌, map, take, Option, None, Some, Result, Ok, Err}
use Prim.Native.String.{String}
use Rattle.std.proofs.Math.ListN as lists
use Rattle.model.specs.declared.Geometry.{Geometry}
use Rattle.model.specs.declared.Card.{Card}
use Rattle.model.specs.Bytes.{write, zeros}
use Rattle.model.specs.Geometry.{geometry, G, capacity, memory_need, flash_need}
use Rattle.model.specs.Card.{figured}
use Rattle.model.specs.Keys.{mixed, page_of, bit_of}
use Rattle.model.specs.Page.{count_of}
use Rattle.model.specs.Partition.{listed_of, buffer_of, partition}
use Rattle.model.specs.Flush.{page_checks, with_batch_page}
use Rattle.model.specs.Answers.{Areas, Refusal, Answer, done, found, absent, shown, refused}
use Rattle.model.specs.Text.{text}
use Rattle.model.specs.Session.{lines_of, program_areas, lines_print}
use Rattle.model.specs.Calls.{Call, format, put, get, del, flush, view, count, drop, partition_in, reply, text_left, run, replies}

abbrev pub largest : Geometry
largest = geometry 8 4096 64 32 65536 8 1024

-- G with some of its numbers changed: a page's bytes, pages, batches kept, bits set per key
abbrev pub like : ℕ → ℕ → ℕ → ℕ → Geometry
like P Q K h = geometry 0 P Q K 64 h 1

abbrev pub with_kept : ℕ → Geometry
with_kept n = like 64 1 n 3

abbrev pub with_hashes : ℕ → Geometry
with_hashes n = like 64 1 2 n

abbrev pub with_pages : ℕ → Geometry
with_pages n = like 64 n 2 3

abbrev pub with_page : ℕ → Geometry
with_page n = like n 1 2 3

abbrev pub areas : ℕ → ℕ → Areas
areas m f = record { memory = zeros m; flash = zeros f }

abbrev pub sevens : ℕ → List ℕ
sevens n = map (λ _. 7) (zeros n)

-- the session's words for an answer
abbrev pub ok : ℕ → List ℕ
ok pages = 0 ∷ pages ∷ []

abbrev pub found_with : ℕ → ℕ → ℕ → List ℕ
found_with value reads comparisons = 1 ∷ value ∷ reads ∷ comparisons ∷ []

abbrev pub none_with : ℕ → ℕ → List ℕ
none_with reads comparisons = 2 ∷ reads ∷ comparisons ∷ []

abbrev pub refused_with : ℕ → ℕ → List ℕ
refused_with number reads = 3 ∷ number ∷ reads ∷ []

abbrev pub figures : Answer → List ℕ
figures (done n) = ok n
figures (found v c p) = found_with v c.reads c.comparisons
figures (absent c) = none_with c.reads c.comparisons
figures (shown s) = []
figures (refused n r) = refused_with n r

unfoldable pub all_figures : List Answer → List (List ℕ)
all_figures [] = []
all_figures (a ∷ l) = figures a ∷ all_figures l

-- a card's: memory, flash, flushes and the first loss
abbrev pub card_with : ℕ → ℕ → ℕ → ℕ → List ℕ
card_with memory flash flushes lost = 0 ∷ memory ∷ flash ∷ flushes ∷ lost ∷ []

abbrev pub told : Result Card ℕ → List ℕ
told (Ok c) = card_with c.memory c.flash c.flushes c.first_lost
told (Err n) = refused_with n 0

unfoldable pub carried : Geometry → ℕ → List ℕ
carried g n = told (figured g n)

-- what these calls answer after a format of just the needed areas with G
unfoldable pub session : List Call → List (List ℕ)
session cs = all_figures (replies (areas 144 128) (format G ∷ cs))

-- and with any geometry, on areas of m and f zero bytes
unfoldable pub formatting : Geometry → ℕ → ℕ → List (List ℕ)
formatting g m f = all_figures (replies (areas m f) (format g ∷ []))

-- what a call answers after a format with G and these calls, where memory and flash are changed so in between
unfoldable pub changed : (List ℕ → List ℕ) → (List ℕ → List ℕ) → List Call → Call → List ℕ
changed memory flash cs c =
    let a : Areas = run (areas 144 128) (format G ∷ cs) in
    figures (reply (record { memory = memory a.memory; flash = flash a.flash }) c)

-- a put of 0 on a fresh table whose memory is changed so, beside so many bytes of flash
abbrev pub putting_zero : (List ℕ → List ℕ) → ℕ → List ℕ
putting_zero memory f = changed memory (take f) [] (put 1 0)

-- the same areas, but with this total in the head, and with this live number
abbrev pub with_total : ℕ → List Call → Call → List ℕ
with_total n = changed (write 4 n 40) (λ f. f)

abbrev pub with_live : ℕ → List Call → Call → List ℕ
with_live n = changed (write 4 n 44) (λ f. f)

-- the same for a list of calls
unfoldable pub all_with_live : ℕ → List Call → List Call → List (List ℕ)
all_with_live n cs ds =
    let a : Areas = run (areas 144 128) (format G ∷ cs) in
    all_figures (replies (record { memory = write 4 n 44 a.memory; flash = a.flash }) ds)

-- memory's partition 0 after a format with G and two puts, changed so
unfoldable pub two_put : (List ℕ → List ℕ) → List ℕ
two_put memory = partition G 0 (memory (run (areas 144 128) (format G ∷ put 1 10 ∷ put 2 20 ∷ [])).memory)

-- the slots' pages after its page is written, where all flash bytes were 7: the first bytes of each
unfoldable pub written : (List ℕ → List ℕ) → List (List ℕ)
written memory = let f = with_batch_page G 0 (two_put memory) 0 (sevens 128) in take 20 f ∷ take 20 (lists.drop 64 f) ∷ []

abbrev pub refusal : Option Refusal → List ℕ
refusal None = ok 0
refusal (Some r) = refused_with r.number r.reads

-- what is checked before: page q of partition t
unfoldable pub writing : (List ℕ → List ℕ) → ℕ → ℕ → List ℕ
writing memory t q = refusal (page_checks G t q (two_put memory))

-- what a text of partition t answers on areas that are changed so in between, and what it leaves of a text area of n bytes 7
unfoldable pub texted : (List ℕ → List ℕ) → (List ℕ → List ℕ) → List Call → ℕ → ℕ → List (List ℕ)
texted memory flash cs t n =
    let a : Areas = run (areas 144 128) (format G ∷ cs) in
    let b : Areas = record { memory = memory a.memory; flash = flash a.flash } in
    figures (reply b (Call.text t n)) ∷ text_left b t (sevens n) ∷ []

-- six keys that differ only above bit 16: the low 16 bits have the number of one stream
abbrev pub stream : List ℕ
stream = 0x9e3779b97f4a0007 ∷ 0x3c6ef372fe940007 ∷ 0xdaa66d2c7dde0007 ∷ 0x78dde6e5fd280007 ∷ 0x1715609f7c740007 ∷ 0xb54cda58fbbe0007 ∷ []

-- a fresh table of G with four pages, and these keys put into it
abbrev pub streamed : List Call
streamed = format (with_pages 4) ∷ map (λ k. put k 1) stream

-- the entries of buffer page q then
abbrev pub streamed_in : ℕ → ℕ
streamed_in q = count_of (buffer_of (with_pages 4) (partition_in (run (areas 336 512) streamed) 0) q)

-- the worked session: its calls behind the format, its text and what that prints
abbrev pub worked : List Call
worked = put 1 10 ∷ put 2 20 ∷ put 3 30 ∷ put 0 40 ∷ get 2 ∷ del 2 ∷ get 2 ∷ del 3 ∷ get 3 ∷ flush 0 ∷ get 0 ∷ []

abbrev pub input : String
input = "(format (parts 0) (page 64) (pages 1) (kept 2) (bits 64) (hashes 3) (list 1))\n(put 1 10)\n(put 2 20)\n(put 3 30)\n(put 0 40)\n(get 2)\n(del 2)\n(get 2)\n(del 3)\n(get 3)\n(flush 0)\n(get 0)\n"

abbrev pub output : String
output = "(ok 0)\n(ok 0)\n(ok 0)\n(ok 0)\n(ok 1)\n(found 20 1 3)\n(ok 0)\n(none 0 0)\n(refused 14 0)\n(found 30 1 4)\n(ok 1)\n(found 40 1 1)\n"

-- five keys, and the form of count
abbrev pub counting : String
counting = "(format (parts 0) (page 64) (pages 1) (kept 2) (bits 64) (hashes 3) (list 1))\n(put 1 10)\n(put 2 20)\n(put 3 30)\n(put 4 40)\n(put 5 50)\n(count 0)\n"

abbrev pub counted : String
counted = "(ok 0)\n(ok 0)\n(ok 0)\n(ok 0)\n(ok 1)\n(ok 0)\n(ok 5)\n"

-- batch 1 of two entries and batch 2 of one, as many batches as G keeps, with their answers; and so many keys in the buffer beside them
abbrev pub batches : List Call
batches = put 1 10 ∷ put 2 20 ∷ flush 0 ∷ put 3 30 ∷ flush 0 ∷ []

abbrev pub batched : List (List ℕ)
batched = ok 0 ∷ ok 0 ∷ ok 1 ∷ ok 0 ∷ ok 1 ∷ []

abbrev pub filled : List Call
filled = batches ++ (put 4 40 ∷ put 5 50 ∷ put 6 60 ∷ [])

-- batch 1 dropped, and the form of drop
abbrev pub lowered : List Call
lowered = batches ++ (drop 0 ∷ [])

abbrev pub dropping : String
dropping = "(format (parts 0) (page 64) (pages 1) (kept 2) (bits 64) (hashes 3) (list 1))\n(drop 0)\n(put 1 10)\n(flush 0)\n(get 1)\n(drop 0)\n(get 1)\n(drop 1)\n(drop 00)\n"

abbrev pub dropped : String
dropped = "(ok 0)\n(refused 23 0)\n(ok 0)\n(ok 1)\n(found 10 1 1)\n(ok 0)\n(none 0 0)\n(refused 4 0)\n(bad)\n"

pub record Row : Type 0 where
  pub given : List (List ℕ)
  pub paper : List (List ℕ)

abbrev pub numbers : List ℕ → List ℕ → Row
numbers given paper = record { given = given ∷ []; paper = paper ∷ [] }

abbrev pub answers : List (List ℕ) → List (List ℕ) → Row
answers given paper = record { given = given; paper = paper }

-- a page's head of this count and flush number, and the low half of key 1
abbrev pub headed : ℕ → ℕ → List ℕ
headed n number = n ∷ 0 ∷ 0 ∷ 0 ∷ 0 ∷ 0 ∷ 0 ∷ 0 ∷ number ∷ 0 ∷ 0 ∷ 0 ∷ 0 ∷ 0 ∷ 0 ∷ 0 ∷ 1 ∷ 0 ∷ 0 ∷ 0 ∷ []

abbrev pub untouched : List ℕ
untouched = sevens 20

-- a key of batch 1 in the buffer too
abbrev pub twice : List Call
twice = put 1 10 ∷ put 2 20 ∷ flush 0 ∷ put 3 30 ∷ put 1 11 ∷ []

-- nine keys that fill the page three times
abbrev pub nine : List Call
nine = map (λ k. put k 1) (0 ∷ 1 ∷ 2 ∷ 3 ∷ 4 ∷ 5 ∷ 6 ∷ 7 ∷ 8 ∷ [])

-- two batches of the same two keys, and another key in the buffer
abbrev pub alike : List Call
alike = put 0 10 ∷ put 2 20 ∷ flush 0 ∷ put 0 11 ∷ put 2 21 ∷ flush 0 ∷ put 5 50 ∷ []

-- job 8
unfoldable pub searches : List Row
searches =
    -- the buffer page: its first entry, its last, and all of them for a key that it lacks
    answers (lists.drop 4 (session (put 1 10 ∷ put 2 20 ∷ put 3 30 ∷ get 1 ∷ get 3 ∷ get 4 ∷ []))) (found_with 10 0 1 ∷ found_with 30 0 3 ∷ none_with 0 3 ∷ [])
    -- then each page that is read, up to the one with the key, and none of a batch whose filter does not pass
    ∷ answers (lists.drop 8 (session (alike ++ (get 1 ∷ get 0 ∷ get 2 ∷ get 20 ∷ [])))) (none_with 2 5 ∷ found_with 11 1 2 ∷ found_with 21 1 3 ∷ none_with 0 1 ∷ [])
    -- a listed key costs nothing, whatever the list, the buffer and the batches hold
    ∷ answers (lists.drop 8 (session (alike ++ (del 2 ∷ get 2 ∷ [])))) (ok 0 ∷ none_with 0 0 ∷ [])
    -- an entry behind the used ones is not compared, and of a key twice in its page only the first is
    ∷ answers (changed (write 2 1 80) (λ f. f) (put 1 10 ∷ put 2 20 ∷ []) (get 2) ∷ changed (write 8 1 112) (λ f. f) (put 1 10 ∷ put 2 20 ∷ []) (get 1) ∷ []) (none_with 0 1 ∷ found_with 10 0 1 ∷ [])
    -- a refusal tells none: the second page read fails
    ∷ answers (changed (λ m. m) (write 2 4 0) alike (get 1) ∷ []) (refused_with 13 2 ∷ [])
    ∷ []

-- job 7
unfoldable pub cards : List Row
cards =
    -- G: the most flushes of 0, 1, 3, 4 and 7 puts
    answers (map (carried G) (0 ∷ 1 ∷ 3 ∷ 4 ∷ 7 ∷ []))
    (card_with 144 128 0 10 ∷ card_with 144 128 0 10 ∷ card_with 144 128 0 10 ∷ card_with 144 128 1 10 ∷ card_with 144 128 2 10 ∷ [])
    -- the largest geometry with the most puts
    ∷ numbers (carried largest 4294967295) (card_with 138416160 2147483648 16843008 8416)
    -- 1, as in format
    ∷ answers (map (λ g. carried g 7) (with_kept 0 ∷ with_kept 33 ∷ with_hashes 9 ∷ with_pages 3 ∷ [])) (refused_with 1 0 ∷ refused_with 1 0 ∷ refused_with 1 0 ∷ refused_with 1 0 ∷ [])
    -- the tenth put loses the key of the first
    ∷ answers (lists.drop 10 (session (nine ++ (get 0 ∷ put 9 1 ∷ get 0 ∷ [])))) (found_with 1 1 4 ∷ ok 1 ∷ none_with 0 1 ∷ [])
    ∷ searches

-- job 6
unfoldable pub drops : List Row
drops =
    -- a drop takes batch 1 with its two entries, then batch 2, and then there is none
    answers (session (batches ++ (drop 0 ∷ get 1 ∷ get 3 ∷ count 0 ∷ drop 0 ∷ get 3 ∷ count 0 ∷ drop 0 ∷ [])))
    (ok 0 ∷ batched ++ (ok 0 ∷ none_with 0 0 ∷ found_with 30 1 1 ∷ ok 1 ∷ ok 0 ∷ none_with 0 0 ∷ ok 0 ∷ refused_with 23 0 ∷ []))
    -- in a session of its own
    ∷ answers (lines_print (lines_of (text dropping)) (areas 144 128) ∷ []) (text dropped ∷ [])
    -- the next flush pushes nothing out, reads no head, and lets batch 2 live on; the one after it pushes batch 2 out
    ∷ answers (session (lowered ++ (put 4 40 ∷ flush 0 ∷ get 3 ∷ count 0 ∷ put 5 50 ∷ flush 0 ∷ get 3 ∷ count 0 ∷ [])))
    (ok 0 ∷ batched ++ (ok 0 ∷ ok 0 ∷ ok 1 ∷ found_with 30 1 1 ∷ ok 2 ∷ ok 0 ∷ ok 1 ∷ none_with 0 0 ∷ ok 2 ∷ []))
    ∷ answers (changed (λ m. m) (write 2 4 0) (lowered ++ (put 4 40 ∷ [])) (flush 0) ∷ changed (λ m. m) (write 2 4 0) (batches ++ (put 4 40 ∷ [])) (flush 0) ∷ []) (ok 1 ∷ refused_with 13 1 ∷ [])
    -- a list entry stamped with batch 1 leaves with it, and its place is free; one stamped with batch 2 stays; what only batch 1 held is not listed any more
    ∷ answers (session (batches ++ (del 1 ∷ del 3 ∷ drop 0 ∷ del 3 ∷ [])) ++ session (batches ++ (del 3 ∷ drop 0 ∷ get 3 ∷ [])) ++ session (lowered ++ (del 1 ∷ del 3 ∷ [])))
    (ok 0 ∷ batched ++ (ok 0 ∷ refused_with 14 0 ∷ ok 0 ∷ ok 0 ∷ ok 0 ∷ []) ++ batched ++ (ok 0 ∷ ok 0 ∷ none_with 0 0 ∷ ok 0 ∷ []) ++ batched ++ (ok 0 ∷ ok 0 ∷ ok 0 ∷ []))
    -- the dropped batch is not shown, and not in the text
    ∷ answers (changed (λ m. m) (λ f. f) lowered (view 0 0 1) ∷ texted (λ m. m) (λ f. f) lowered 0 11) (refused_with 17 0 ∷ ok 11 ∷ text "(put 3 30)\n" ∷ [])
    -- 12 in every call: a live number of 3, above K; and one above F, and a list overfull, before 23
    ∷ answers (all_with_live 3 (batches ++ (put 4 40 ∷ flush 0 ∷ [])) (drop 0 ∷ get 1 ∷ put 4 40 ∷ del 1 ∷ flush 0 ∷ view 0 0 1 ∷ count 0 ∷ Call.text 0 99 ∷ []) ++ (with_live 1 [] (drop 0) ∷ changed (write 4 2 36) (λ f. f) [] (drop 0) ∷ []))
    (refused_with 12 0 ∷ refused_with 12 0 ∷ refused_with 12 0 ∷ refused_with 12 0 ∷ refused_with 12 0 ∷ refused_with 12 0 ∷ refused_with 12 0 ∷ refused_with 12 0 ∷ refused_with 12 0 ∷ refused_with 12 0 ∷ [])
    -- 13 for a head of the batch that goes, and for no other page; 12 where the total does not count its two entries; a buffer page is not read
    ∷ answers (changed (λ m. m) (write 2 4 0) batches (drop 0) ∷ changed (λ m. m) (write 2 4 64) batches (drop 0) ∷ with_total 1 batches (drop 0) ∷ changed (write 2 4 80) (λ f. f) batches (drop 0) ∷ [])
    (refused_with 13 1 ∷ ok 0 ∷ refused_with 12 0 ∷ ok 0 ∷ [])
    ∷ cards

-- job 5
unfoldable pub texts : List Row
texts =
    -- the text of the worked session: batch 1 without the listed key, then batch 2. It fits 33 bytes, and a surplus byte stays
    answers (texted (λ m. m) (λ f. f) worked 0 33 ++ texted (λ m. m) (λ f. f) worked 0 34)
    (ok 33 ∷ text "(put 1 10)\n(put 3 30)\n(put 0 40)\n" ∷ ok 33 ∷ (text "(put 1 10)\n(put 3 30)\n(put 0 40)\n" ++ sevens 1) ∷ [])
    -- one byte less is too short, and nothing is written; an empty text fits an empty area
    ∷ answers (texted (λ m. m) (λ f. f) worked 0 32 ++ texted (λ m. m) (λ f. f) [] 0 0) (refused_with 22 0 ∷ sevens 32 ∷ ok 0 ∷ [] ∷ [])
    -- the younger entry answers, and the buffer comes last
    ∷ answers (texted (λ m. m) (λ f. f) twice 0 33) (ok 33 ∷ text "(put 2 20)\n(put 3 30)\n(put 1 11)\n" ∷ [])
    -- batch 1 is live no more
    ∷ answers (texted (λ m. m) (λ f. f) (batches ++ (put 4 40 ∷ flush 0 ∷ [])) 0 22) (ok 22 ∷ text "(put 3 30)\n(put 4 40)\n" ∷ [])
    -- of a key twice in a page, the first; none where the filter of the batch does not pass
    ∷ answers (texted (write 8 1 112) (λ f. f) (put 1 10 ∷ put 2 20 ∷ []) 0 11 ++ texted (write 8 0 64) (λ f. f) (put 1 10 ∷ flush 0 ∷ []) 0 0)
    (ok 11 ∷ text "(put 1 10)\n" ∷ ok 0 ∷ [] ∷ [])
    -- 4; 12 for L, for the total and for a buffer page; 13 with 0 reads, for either batch
    ∷ answers (texted (λ m. m) (λ f. f) batches 1 1 ++ texted (write 4 2 36) (λ f. f) batches 0 1 ++ texted (write 4 10 40) (λ f. f) batches 0 1 ++ texted (write 2 4 80) (λ f. f) batches 0 1 ++ texted (λ m. m) (write 2 4 0) batches 0 1 ++ texted (λ m. m) (write 2 4 64) batches 0 1)
    (refused_with 4 0 ∷ sevens 1 ∷ refused_with 12 0 ∷ sevens 1 ∷ refused_with 12 0 ∷ sevens 1 ∷ refused_with 12 0 ∷ sevens 1 ∷ refused_with 13 0 ∷ sevens 1 ∷ refused_with 13 0 ∷ sevens 1 ∷ [])
    ∷ drops

-- job 4
unfoldable pub writes : List Row
writes =
    -- the buffer page with the flush number 1 in slot 0; where a flush is done, with 2 in slot 1; the other slot stays
    answers (written (λ m. m)) (headed 2 1 ∷ untouched ∷ [])
    ∷ answers (written (write 4 1 32)) (untouched ∷ headed 2 2 ∷ [])
    -- a page that counts 4, above E, is written too
    ∷ answers (written (write 2 4 80)) (headed 4 1 ∷ untouched ∷ [])
    -- 4 and 16, and no 12
    ∷ answers (writing (λ m. m) 0 0 ∷ writing (λ m. m) 1 0 ∷ writing (λ m. m) 0 1 ∷ writing (write 4 4294967295 32) 0 0 ∷ writing (write 2 4 80) 0 0 ∷ writing (write 4 2 36) 0 0 ∷ [])
    (ok 0 ∷ refused_with 4 0 ∷ refused_with 4 0 ∷ refused_with 16 0 ∷ ok 0 ∷ ok 0 ∷ [])
    ∷ texts

-- job 3
unfoldable pub counts : List Row
counts =
    -- the total after the worked session, and in a session of its own
    numbers (changed (λ m. m) (λ f. f) worked (count 0)) (ok 4)
    ∷ answers (lines_print (lines_of (text counting)) (areas 144 128) ∷ []) (text counted ∷ [])
    -- a key appended counts, and one deleted from the buffer counts no more; a value replaced, a key flushed and a key listed change nothing
    ∷ answers (session (put 1 10 ∷ count 0 ∷ put 1 11 ∷ count 0 ∷ put 2 20 ∷ count 0 ∷ del 1 ∷ count 0 ∷ flush 0 ∷ count 0 ∷ del 2 ∷ count 0 ∷ count 1 ∷ []))
    (ok 0 ∷ ok 0 ∷ ok 1 ∷ ok 0 ∷ ok 1 ∷ ok 0 ∷ ok 2 ∷ ok 0 ∷ ok 1 ∷ ok 1 ∷ ok 1 ∷ ok 0 ∷ ok 1 ∷ refused_with 4 0 ∷ [])
    -- the third flush pushes batch 1 out with its two entries, and so does a put that flushes
    ∷ answers (session (batches ++ (count 0 ∷ put 4 40 ∷ count 0 ∷ flush 0 ∷ count 0 ∷ [])))
    (ok 0 ∷ ok 0 ∷ ok 0 ∷ ok 1 ∷ ok 0 ∷ ok 1 ∷ ok 3 ∷ ok 0 ∷ ok 4 ∷ ok 1 ∷ ok 2 ∷ [])
    ∷ numbers (changed (λ m. m) (λ f. f) (filled ++ (put 7 70 ∷ [])) (count 0)) (ok 5)
    -- it reads the page that goes, and no other
    ∷ answers (changed (λ m. m) (write 2 4 0) filled (put 7 70) ∷ changed (λ m. m) (write 2 4 0) filled (flush 0) ∷ changed (λ m. m) (write 2 4 64) filled (put 7 70) ∷ [])
    (refused_with 13 1 ∷ refused_with 13 1 ∷ ok 1 ∷ [])
    -- 12: a total above (K + 1) × Q × E, which is 9 in G
    ∷ answers (with_total 9 [] (count 0) ∷ with_total 10 [] (count 0) ∷ with_total 10 [] (get 1) ∷ []) (ok 9 ∷ refused_with 12 0 ∷ refused_with 12 0 ∷ [])
    -- and where the call would end with one past that, or below 0
    ∷ answers (with_total 9 [] (put 1 10) ∷ with_total 9 (put 1 10 ∷ []) (put 1 11) ∷ with_total 0 (put 1 10 ∷ []) (del 1) ∷ with_total 1 filled (flush 0) ∷ with_total 1 filled (put 7 70) ∷ [])
    (refused_with 12 0 ∷ ok 0 ∷ refused_with 12 0 ∷ refused_with 12 0 ∷ ok 1 ∷ [])
    ∷ writes

unfoldable pub rows : List Row
rows =
    -- 1: needs, and one byte less
    numbers (memory_need G ∷ flash_need G ∷ []) (144 ∷ 128 ∷ [])
    ∷ answers (formatting G 143 128 ++ formatting G 144 127 ++ formatting G 144 128) (refused_with 2 0 ∷ refused_with 3 0 ∷ ok 0 ∷ [])
    -- 2: the largest geometry
    ∷ numbers (memory_need largest ∷ flash_need largest ∷ []) (138416160 ∷ 2147483648 ∷ [])
    -- 3: mixing
    ∷ numbers (mixed 1 ∷ mixed 2 ∷ mixed 0 ∷ []) (0x40822041 ∷ 0x81044082 ∷ 0 ∷ [])
    -- 4: bits of 0, 1, 2
    ∷ numbers (bit_of G (mixed 0) 0 ∷ bit_of G (mixed 0) 1 ∷ bit_of G (mixed 0) 2 ∷ []) (0 ∷ 1 ∷ 2 ∷ [])
    ∷ numbers (bit_of G (mixed 1) 0 ∷ bit_of G (mixed 1) 1 ∷ bit_of G (mixed 1) 2 ∷ []) (1 ∷ 2 ∷ 3 ∷ [])
    ∷ numbers (bit_of G (mixed 2) 0 ∷ bit_of G (mixed 2) 1 ∷ bit_of G (mixed 2) 2 ∷ []) (2 ∷ 3 ∷ 4 ∷ [])
    -- 5: a batch of keys 0 and 2 passes key 1
    ∷ answers (session (put 0 10 ∷ put 2 20 ∷ flush 0 ∷ get 1 ∷ [])) (ok 0 ∷ ok 0 ∷ ok 0 ∷ ok 1 ∷ none_with 1 2 ∷ [])
    -- 6: three keys fill the page, a repeat of the third doesn't flush, the fourth does
    ∷ answers (session (put 1 10 ∷ put 2 20 ∷ put 3 30 ∷ put 3 31 ∷ put 4 40 ∷ get 3 ∷ [])) (ok 0 ∷ ok 0 ∷ ok 0 ∷ ok 0 ∷ ok 0 ∷ ok 1 ∷ found_with 31 1 4 ∷ [])
    -- 7: two flushes after its put a key is found; after three it is none
    ∷ answers (session (put 1 10 ∷ flush 0 ∷ put 20 20 ∷ flush 0 ∷ get 1 ∷ put 40 30 ∷ flush 0 ∷ get 1 ∷ []))
    (ok 0 ∷ ok 0 ∷ ok 1 ∷ ok 0 ∷ ok 1 ∷ found_with 10 1 1 ∷ ok 0 ∷ ok 1 ∷ none_with 0 0 ∷ [])
    -- 8: del of an absent key in a fresh table
    ∷ answers (session (del 7 ∷ [])) (ok 0 ∷ ok 0 ∷ [])
    ∷ numbers (listed_of (partition_in (run (areas 144 128) (format G ∷ del 7 ∷ [])) 0) ∷ []) (0 ∷ [])
    -- 9: entries of a page
    ∷ numbers (capacity (with_page 64) ∷ capacity (with_page 4096) ∷ []) (3 ∷ 255 ∷ [])
    -- 10: outside the table; untouched areas
    ∷ answers (formatting (with_kept 0) 144 128 ++ formatting (with_kept 33) 144 128 ++ formatting (with_hashes 9) 144 128 ++ formatting (with_pages 3) 144 128)
    (refused_with 1 0 ∷ refused_with 1 0 ∷ refused_with 1 0 ∷ refused_with 1 0 ∷ [])
    ∷ answers (all_figures (replies (areas 144 128) (get 1 ∷ []))) (refused_with 11 0 ∷ [])
    -- "The session program": its calls, and its text over two areas of 32,768 zero bytes
    ∷ answers (session worked)
    (ok 0 ∷ ok 0 ∷ ok 0 ∷ ok 0 ∷ ok 1 ∷ found_with 20 1 3 ∷ ok 0 ∷ none_with 0 0 ∷ refused_with 14 0 ∷ found_with 30 1 4 ∷ ok 1 ∷ found_with 40 1 1 ∷ [])
    ∷ answers (lines_print (lines_of (text input)) program_areas ∷ []) (text output ∷ [])
    -- job 1: a put of 0 is refused, also for a key that its page has and for a full page, where nothing is flushed then
    ∷ answers (session (put 5 0 ∷ put 1 10 ∷ put 2 20 ∷ put 3 1 ∷ put 3 0 ∷ put 5 0 ∷ get 3 ∷ get 5 ∷ []))
    (ok 0 ∷ refused_with 21 0 ∷ ok 0 ∷ ok 0 ∷ ok 0 ∷ refused_with 21 0 ∷ refused_with 21 0 ∷ found_with 1 0 3 ∷ none_with 0 3 ∷ [])
    -- behind 2, 11, 2 and 3
    ∷ answers (putting_zero (take 31) 128 ∷ putting_zero (write 4 1 28) 128 ∷ putting_zero (take 143) 128 ∷ putting_zero (λ m. m) 127 ∷ [])
    (refused_with 2 0 ∷ refused_with 11 0 ∷ refused_with 2 0 ∷ refused_with 3 0 ∷ [])
    -- before 12, of the list and of the key's page
    ∷ answers (putting_zero (write 4 2 36) 128 ∷ putting_zero (write 2 4 80) 128 ∷ []) (refused_with 21 0 ∷ refused_with 21 0 ∷ [])
    -- job 2: the pages of these six keys
    ∷ numbers (map (page_of (with_pages 4)) stream) (3 ∷ 2 ∷ 0 ∷ 1 ∷ 3 ∷ 1 ∷ [])
    -- three fill a page, and six go into four pages without a flush
    ∷ answers (all_figures (replies (areas 336 512) streamed)) (ok 0 ∷ ok 0 ∷ ok 0 ∷ ok 0 ∷ ok 0 ∷ ok 0 ∷ ok 0 ∷ [])
    ∷ numbers (map streamed_in (0 ∷ 1 ∷ 2 ∷ 3 ∷ [])) (1 ∷ 2 ∷ 1 ∷ 2 ∷ [])
    ∷ counts

-- every row agrees
unfoldable pub Agree : List Row → Type 0
Agree [] = Unit {0}
Agree (r ∷ rs) = (r.given ≡ r.paper) × Agree rs
