-- A text of whole lines that a session reads: what it leaves, and that none of its lines is refused, whatever text follows.
use Prim.Native.Nat.{ℕ, ◌^◌, ◌<◌}
use mathlib.Core.Bool.{false}
use mathlib.Core.Path.{◌≡◌, refl, ◌∙◌, ap}
use mathlib.Core.List.{List, [], ◌++◌, append_assoc}
use Rattle.model.specs.Answers.{Areas}
use Rattle.model.specs.PartitionText.{put_text}
use Rattle.model.specs.Calls.{put, reply, after}
use Rattle.model.specs.Session.{call_of, left_by, line_leaves, lines_of, lines_leave}
use Rattle.model.proofs.PutLines.{put_line_of, put-cut, put-said}
use Rattle.history.specs.Claim.{is_refused}
use Rattle.history.specs.Moving.{Taken, AllTaken}

pub record Reads (xs : List ℕ) (b b' : Areas) : Type 0 where
  pub leaves : (rest : List ℕ) → lines_leave (lines_of (xs ++ rest)) b ≡ lines_leave (lines_of rest) b'
  pub taken : (rest : List ℕ) → AllTaken (lines_of rest) b' → AllTaken (lines_of (xs ++ rest)) b

pub reads_none : (b : Areas) → Reads [] b b
reads_none b = record { leaves = λ rest. refl; taken = λ rest all. all }

pub reads-append : {xs ys : List ℕ} {b b' b'' : Areas} → Reads xs b b' → Reads ys b' b'' → Reads (xs ++ ys) b b''
reads-append {xs} {ys} first last = record {
  leaves = λ rest. rw (append_assoc xs ys rest) (first.leaves (ys ++ rest) ∙ last.leaves rest);
  taken = λ rest all. rw (append_assoc xs ys rest) (first.taken (ys ++ rest) (last.taken rest all));
}

-- the line of a put that is accepted
module _ (k v : ℕ) (hk : k < 2 ^ 64) (hv : v < 2 ^ 64) (b : Areas) where
  line-leaves : line_leaves (put_line_of k v) b ≡ after b (put k v)
  unfolding line_leaves
  line-leaves = ap (λ c. left_by c b) (put-said k v hk hv)

  line_taken : is_refused (reply b (put k v)) ≡ false → Taken (call_of (put_line_of k v)) b
  line_taken accepted = rw (put-said k v hk hv) accepted

  pub reads-put : is_refused (reply b (put k v)) ≡ false → Reads (put_text k v) b (after b (put k v))
  unfolding lines_leave
  reads-put accepted = record {
    leaves = λ rest. ap (λ ls. lines_leave ls b) (put-cut k v hk hv rest) ∙ ap (lines_leave (lines_of rest)) line-leaves;
    taken = λ rest all. rw (put-cut k v hk hv rest, line-leaves) (line_taken accepted, all);
  }
