-- "The session program": a text to its lines, a line to a call or to none, an answer to its text.
use Rattle.std.specs.Prelude.{ℕ, ◌^◌, cond, List, [], ◌∷◌, ◌++◌, eqb, Option, None, Some}
use Prim.Native.String.{String}
use Rattle.model.specs.Bytes.{zeros}
use Rattle.model.specs.Geometry.{geometry}
use Rattle.model.specs.Text.{text, decimal, past, Figure, figure}
use Rattle.model.specs.Answers.{Areas, Answer, done, found, absent, shown, refused}
use Rattle.model.specs.Calls.{Call, format, put, get, del, flush, count, drop, reply, after}

abbrev pub then : {A B : Type 0} → Option A → (A → Option B) → Option B
then None f = None
then (Some x) f = f x

abbrev pub or_else : {A : Type 0} → Option A → Option A → Option A
or_else None other = other
or_else (Some x) other = Some x

-- the number below the limit that follows a fixed text
abbrev pub number_past : String → ℕ → List ℕ → Option Figure
number_past s limit xs = then (past (text s) xs) (figure limit)

-- the call, where nothing but the fixed text is left
abbrev pub at_end : Call → List ℕ → Option Call
at_end c [] = Some c
at_end c (x ∷ xs) = None

abbrev pub ending : String → List ℕ → Call → Option Call
ending s xs c = then (past (text s) xs) (at_end c)

-- keys and values below 2^64, others below 2^32
abbrev pub wide : ℕ
wide = 2 ^ 64

abbrev pub narrow : ℕ
narrow = 2 ^ 32

-- (put 1 10)
unfoldable pub put_line : List ℕ → Option Call
put_line xs =
    then (number_past "(put " wide xs) (λ k.
    then (number_past " " wide k.rest) (λ v.
    ending ")" v.rest (put k.value v.value)))

-- (get 2), (del 2), (flush 0), (count 0), (drop 0): one number
abbrev pub one_number : String → ℕ → (ℕ → Call) → List ℕ → Option Call
one_number s limit call xs = then (number_past s limit xs) (λ n. ending ")" n.rest (call n.value))

unfoldable pub get_line : List ℕ → Option Call
get_line xs = one_number "(get " wide get xs

unfoldable pub del_line : List ℕ → Option Call
del_line xs = one_number "(del " wide del xs

unfoldable pub flush_line : List ℕ → Option Call
flush_line xs = one_number "(flush " narrow flush xs

unfoldable pub count_line : List ℕ → Option Call
count_line xs = one_number "(count " narrow count xs

unfoldable pub drop_line : List ℕ → Option Call
drop_line xs = one_number "(drop " narrow drop xs

-- (format (parts 0) (page 64) (pages 1) (kept 2) (bits 64) (hashes 3) (list 1))
unfoldable pub format_line : List ℕ → Option Call
format_line xs =
    then (number_past "(format (parts " narrow xs) (λ s.
    then (number_past ") (page " narrow s.rest) (λ p.
    then (number_past ") (pages " narrow p.rest) (λ q.
    then (number_past ") (kept " narrow q.rest) (λ k.
    then (number_past ") (bits " narrow k.rest) (λ m.
    then (number_past ") (hashes " narrow m.rest) (λ h.
    then (number_past ") (list " narrow h.rest) (λ d.
    ending "))" d.rest
    (format (geometry s.value p.value q.value k.value m.value h.value d.value)))))))))

-- the call that a line says
unfoldable pub call_of : List ℕ → Option Call
call_of xs = or_else (put_line xs) (or_else (get_line xs) (or_else (del_line xs) (or_else (flush_line xs) (or_else (count_line xs) (or_else (drop_line xs) (format_line xs))))))

-- After ok: pages written, or the total. After found: value, reads, comparisons. After none: reads, comparisons. After refused: number, reads. A view has no form.
unfoldable pub answer_text : Answer → List ℕ
answer_text (done n) = text "(ok " ++ decimal n ++ text ")\n"
answer_text (found v c p) = text "(found " ++ decimal v ++ text " " ++ decimal c.reads ++ text " " ++ decimal c.comparisons ++ text ")\n"
answer_text (absent c) = text "(none " ++ decimal c.reads ++ text " " ++ decimal c.comparisons ++ text ")\n"
answer_text (refused n r) = text "(refused " ++ decimal n ++ text " " ++ decimal r ++ text ")\n"
answer_text (shown s) = []

-- A line of any other text prints `(bad)` and does nothing.
abbrev pub printed_for : Option Call → Areas → List ℕ
printed_for None a = text "(bad)\n"
printed_for (Some c) a = answer_text (reply a c)

abbrev pub left_by : Option Call → Areas → Areas
left_by None a = a
left_by (Some c) a = after a c

unfoldable pub line_prints : List ℕ → Areas → List ℕ
line_prints line a = printed_for (call_of line) a

unfoldable pub line_leaves : List ℕ → Areas → Areas
line_leaves line a = left_by (call_of line) a

-- A line ends at byte 10 or at the end of input; after a last byte 10 there is no further line.
abbrev pub started_by : ℕ → List (List ℕ) → List (List ℕ)
started_by x [] = (x ∷ []) ∷ []
started_by x (l ∷ ls) = (x ∷ l) ∷ ls

unfoldable pub lines_of : List ℕ → List (List ℕ)
lines_of [] = []
lines_of (x ∷ xs) = cond (eqb x 10) ([] ∷ lines_of xs) (started_by x (lines_of xs))

-- "over two areas of 32,768 zero bytes"
unfoldable pub zero_area : List ℕ
zero_area = zeros 32768

abbrev pub program_areas : Areas
program_areas = record { memory = zero_area; flash = zero_area }

-- all that a session prints
unfoldable pub lines_print : List (List ℕ) → Areas → List ℕ
lines_print [] a = []
lines_print (l ∷ ls) a = line_prints l a ++ lines_print ls (line_leaves l a)

-- both areas as a session leaves them
unfoldable pub lines_leave : List (List ℕ) → Areas → Areas
lines_leave [] a = a
lines_leave (l ∷ ls) a = lines_leave ls (line_leaves l a)
