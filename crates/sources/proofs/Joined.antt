-- Texts joined one behind another, as a loop over them shows it: with the next one, and the room that there is for it.
use Rattle.std.proofs.Common.{◌≡◌, ◌+◌, ◌≤◌, ◌<◌, ◌++◌, ℕ, List, length, add-one, arith}
use Rattle.model.specs.PartitionText.{joined}
use Rattle.model.proofs.Joining.{joined-more, joined_length, joined-within}

pub joined-next : (i : ℕ) (f : ℕ → List ℕ) → joined (i + 1) f ≡ joined i f ++ f i
joined-next i f = rw (add-one, joined-more i f)

pub length-next : (i : ℕ) (f : ℕ → List ℕ) → length (joined (i + 1) f) ≡ length (joined i f) + length (f i)
length-next i f = rw add-one (joined_length i f)

pub next-within : (i n : ℕ) (f : ℕ → List ℕ) → i < n → length (joined i f) + length (f i) ≤ length (joined n f)
next-within i n f l = omega (arith, length-next i f, joined-within (i + 1) n f (omega arith))
