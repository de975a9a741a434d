-- What the lines of a partition's text put, on any areas of bytes on which it is accepted, whether calls have made them since a format or not: of each key of the partition what a get finds, once, and nothing else (02, job 5).
use Rattle.std.specs.Prelude.{ℕ, ◌<◌, false, cond, ◌≡◌, List, [], ◌∷◌, map, eqb, get_or, Option, None, Some}
use Rattle.model.specs.Keys.{partition_of}
use Rattle.model.specs.Answers.{Areas}
use Rattle.model.specs.Calls.{Call, put, get, text, geometry_in, text_in, reply}
use Rattle.model.specs.Session.{call_of, lines_of}
use Rattle.history.specs.Claim.{is_refused, said}

-- no number above 255
abbrev pub AreBytes : List ℕ → Type 0
AreBytes xs = (i : ℕ) → get_or xs i 0 < 256

-- the call that puts a key's value
abbrev pub put_of : ℕ × ℕ → Option Call
put_of e = Some (put e.0 e.1)

-- of keys with their values, the values of one key, in their order
unfoldable pub values_of : ℕ → List (ℕ × ℕ) → List ℕ
values_of k [] = []
values_of k (e ∷ es) = cond (eqb e.0 k) (e.1 ∷ values_of k es) (values_of k es)

-- the value that a get says, if it says one
abbrev pub value_said : Option (Option ℕ) → List ℕ
value_said (Some (Some v)) = v ∷ []
value_said (Some None) = []
value_said None = []

-- Each line of partition t's text is read as a put. A get of any key of the partition is accepted; the key is put once, with the value that the get finds, or where it finds none not at all. No key of another partition is put.
pub record Tells (a : Areas) (t : ℕ) : Type 0 where
  pub puts : List (ℕ × ℕ)
  pub lines : map call_of (lines_of (text_in a t)) ≡ map put_of puts
  pub accepted : (k : ℕ) → partition_of (geometry_in a) k ≡ t → is_refused (reply a (get k)) ≡ false
  pub found : (k : ℕ) → partition_of (geometry_in a) k ≡ t → values_of k puts ≡ value_said (said (reply a (get k)))
  pub others : (k : ℕ) → (partition_of (geometry_in a) k ≡ t → ⊥) → values_of k puts ≡ []

unfoldable pub TextTells : Type 0
TextTells = (a : Areas) → AreBytes a.memory → AreBytes a.flash → (t room : ℕ) → is_refused (reply a (text t room)) ≡ false → Tells a t
