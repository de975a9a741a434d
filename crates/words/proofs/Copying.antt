-- A copy goes on: what is written behind the bytes already copied is copied too. A part that was lent is back, with all of its elements set.
use Prim.Native.Nat.{ℕ, ◌+◌, ◌-◌, ◌≤◌, ◌<◌}
use mathlib.Core.List.{List, append_assoc}
use mathlib.Core.Path.{◌≡◌, refl, ◌∙◌, ap}
use native.Mathlib.Nat.{add-sub_cancel_left}
use native.Mathlib.Omega.{arith}
use lib.ListN.{length, get_or}
use lib.Seq.{sets, sets-eq, length-sets, drop-drop}
use borrow.Rule.Slice.PartMut.{put_mid}
use Rattle.model.specs.Bytes.{word, write, mid}
use Rattle.model.proofs.Parts.{length-mid, sets-append}
use Rattle.model.proofs.Closing.{mid-add}
use Rattle.model.proofs.Words.{bytes_of-word}

-- a number written is the bytes that it was read from
pub copy-word : (xs ys : List ℕ) (a b n : ℕ) → ((i : ℕ) → get_or ys i 0 < 256) → b + n ≤ length ys → {v at : ℕ} {s : List ℕ} → s ≡ write n v at xs → at ≡ a → v ≡ word n ys b → s ≡ sets xs a (mid b n ys)
unfolding write
copy-word xs ys a b n bytes fits e here ev = e ∙ rw (ev, here, bytes_of-word n ys b bytes fits)

-- n bytes more
pub copy-on : (xs ys : List ℕ) (a b m n : ℕ) {at from : ℕ} {s s' : List ℕ} → s ≡ sets xs a (mid b m ys) → s' ≡ sets s at (mid from n ys) → at ≡ a + m → from ≡ b + m → b + (m + n) ≤ length ys → s' ≡ sets xs a (mid b (m + n) ys)
copy-on xs ys a b m n was e to of fits = e ∙ rw (to, of, was, mid-add, sets-append, length-mid b m ys (omega arith))

-- a part that was lent and is back
pub part_set : (a n : ℕ) (xs ys : List ℕ) {new : List ℕ} → a + n ≤ length xs → new ≡ ys → length ys ≡ n → put_mid a (a + n - a) xs new ≡ sets xs a ys
part_set a n xs ys h e k = rw (e, add-sub_cancel_left a n, sets-eq ys xs a (omega arith), k, drop-drop, append_assoc)

-- the rest up to n, had as the part behind
pub copy-rest : (xs ys : List ℕ) (a b m n : ℕ) {s new : List ℕ} → s ≡ sets xs a (mid b m ys) → m ≤ n → a + n ≤ length xs → b + n ≤ length ys → new ≡ mid (b + m) (b + n - (b + m)) ys → put_mid (a + m) (a + n - (a + m)) s new ≡ sets xs a (mid b n ys)
copy-rest xs ys a b m n {s} {new} was le h k e =
    let left : b + n - (b + m) ≡ n - m = omega arith in
    let ends : a + n ≡ a + m + (n - m) = omega arith in
    let all : m + (n - m) ≡ n = omega arith in
    let fits : a + m + (n - m) ≤ length s = omega (arith, ap length was ∙ length-sets xs a (mid b m ys)) in
    let part : put_mid (a + m) (a + m + (n - m) - (a + m)) s new ≡ sets s (a + m) (mid (b + m) (n - m) ys) =
    part_set (a + m) (n - m) s (mid (b + m) (n - m) ys) fits (rw left at e) (length-mid (b + m) (n - m) ys (omega arith)) in
    rw ends (rw all at (copy-on xs ys a b m (n - m) was part refl refl (omega arith)))
