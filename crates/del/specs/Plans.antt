-- What a del does, from its checks, from the list and from the stamp.
use Rattle.std.specs.Prelude.{ℕ, ◌≤◌, ◌<◌, Bool, cond, ◌&&◌, List, ◌≡◌, eqb, false, Option, Some, is_some, Result, Ok, Err}
use Rattle.model.specs.declared.Geometry.{Geometry}
use Rattle.model.specs.Keys.{page_of}
use Rattle.model.specs.Page.{taken}
use Rattle.model.specs.Partition.{head_of, listed_of, total_of, buffer_of}
use Rattle.model.specs.Answers.{Refusal, unread}
use Rattle.model.specs.Refusals.{key_overfull, total_out}
use Rattle.model.specs.Del.{is_listed, stamp_for}
use Rattle.del.specs.declared.Plan.{Plan}

-- 12 where the total does not count the entry that goes
unfoldable pub plan_removal : Geometry → ℕ → Option ℕ → List ℕ → Result Plan Refusal
plan_removal g k youngest p = cond (total_out g 0 (taken k (buffer_of g p (page_of g k))) (head_of p)) (Err (unread 12)) (Ok (Plan.Remove youngest))

-- 14 where a key that is to be listed finds the list full
abbrev pub plan_with : Option ℕ → Bool → (Option ℕ → Result Plan Refusal) → Result Plan Refusal
plan_with youngest full removal = cond (is_some youngest && full) (Err (unread 14)) (removal youngest)

unfoldable pub plan_listing : Geometry → ℕ → List ℕ → Result Plan Refusal
plan_listing g k p = plan_with (stamp_for g k p) (eqb (listed_of p) g.list) (λ youngest. plan_removal g k youngest p)

unfoldable pub plan_for : Geometry → ℕ → List ℕ → Result Plan Refusal
plan_for g k p = cond (key_overfull g k p) (Err (unread 12)) (cond (is_listed g k p) (Ok Plan.Nothing) (plan_listing g k p))

-- nothing that the del reads is overfull, a key that is to be listed finds a place, and the total counts the entry that goes
pub record Listable (g : Geometry) (k : ℕ) (stamped : Option ℕ) (p : List ℕ) : Type 0 where
  pub fits : key_overfull g k p ≡ false
  pub free : (n : ℕ) → stamped ≡ Some n → listed_of p < g.list
  pub counted : taken k (buffer_of g p (page_of g k)) ≤ total_of p
