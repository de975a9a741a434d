-- "del: a key already listed changes nothing. Otherwise its first entry leaves its buffer page, later used ones moving down. If some live filter passes, it is listed last, stamped with the youngest such batch. No flash is read."
use Rattle.std.specs.Prelude.{ℕ, Bool, cond, not, ◌&&◌, List, [], ◌∷◌, eqb, Option, None, Some}
use Rattle.model.specs.Bytes.{within}
use Rattle.model.specs.Search.{is_some}
use Rattle.model.specs.Geometry.{list_at, list_size, buffer_at}
use Rattle.model.specs.Keys.{page_of}
use Rattle.model.specs.Page.{without, taken}
use Rattle.model.specs.DeleteList.{listed_at, enlisted}
use Rattle.model.specs.Partition.{head_of, listed_head, with_head, totalled, listed_of, list_of, buffer_of, passing}
use Rattle.model.specs.Answers.{Refusal}
use Rattle.model.specs.Refusals.{refuse_if, key_overfull, total_out}
use Rattle.model.specs.declared.Geometry.{Geometry}

abbrev pub is_listed : Geometry → ℕ → List ℕ → Bool
is_listed g k p = is_some (listed_at (listed_of p) k (list_of g p))

-- the youngest live batch whose filter passes the key
abbrev pub youngest : List ℕ → Option ℕ
youngest [] = None
youngest (n ∷ ns) = Some n

abbrev pub stamp_for : Geometry → ℕ → List ℕ → Option ℕ
stamp_for g k p = youngest (passing g k p)

-- the buffer entries that a del removes, 0 or 1
unfoldable pub removes : Geometry → ℕ → List ℕ → ℕ
removes g k p = cond (is_listed g k p) 0 (taken k (buffer_of g p (page_of g k)))

-- 12, 14, 12
unfoldable pub del_checks : Geometry → ℕ → List ℕ → Option Refusal
del_checks g k p =
    refuse_if (key_overfull g k p) 12
    (refuse_if (not (is_listed g k p) && is_some (stamp_for g k p) && eqb (listed_of p) g.list) 14
    (refuse_if (total_out g 0 (removes g k p) (head_of p)) 12 None))

unfoldable pub unbuffered : Geometry → ℕ → List ℕ → List ℕ
unbuffered g k p = within (buffer_at g (page_of g k)) g.page (without k) p

-- listed with the stamp, or not
abbrev pub listed_with : Option ℕ → Geometry → ℕ → List ℕ → List ℕ
listed_with (Some stamp) g k p = with_head (listed_head (head_of p)) (within list_at (list_size g) (enlisted (listed_of p) k stamp) p)
listed_with None g k p = p

-- the partition after the del
unfoldable pub deleted : Geometry → ℕ → List ℕ → List ℕ
deleted g k p = cond (is_listed g k p) p (totalled 0 (removes g k p) (listed_with (stamp_for g k p) g k (unbuffered g k p)))
