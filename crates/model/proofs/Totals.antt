-- The total stays as it is in every change of a partition but that of the total itself; and what a flush that pushes nothing out drops.
use Prim.Native.Nat.{ℕ, ◌+◌, ◌^◌, ◌<◌}
use mathlib.Core.Bool.{true}
use mathlib.Core.Path.{◌≡◌, refl, ◌∙◌, ap}
use mathlib.Core.List.{List}
use Rattle.std.specs.Prelude.{Option, None, Some}
use lib.ListN.{length}
use Rattle.model.specs.declared.Geometry.{Geometry}
use Rattle.model.specs.Geometry.{allowed, stride}
use Rattle.model.specs.DeleteList.{listed_at}
use Rattle.model.specs.Partition.{Head, head_of, flushes_of, listed_of, total_of, list_of}
use Rattle.model.specs.Flush.{flushed}
use Rattle.model.specs.Put.{unlisted, buffered}
use Rattle.model.specs.Del.{unbuffered, listed_with}
use Rattle.model.proofs.Heads.{HeadWords, total-after}
use Rattle.model.proofs.PartitionsCalls.{laid-buffered, laid-unbuffered, laid-unlisted, laid-listed, laid-flushed, not_listed}

module _ (g : Geometry) (ok : allowed g ≡ true) (p : List ℕ) (long : length p ≡ stride g) where
  pub total-buffered : (k v : ℕ) → total_of (buffered g k v p) ≡ total_of p
  total-buffered k v = ap (λ (h : Head). h.total) (laid-buffered g ok p long k v).head

  pub total-unbuffered : (k : ℕ) → total_of (unbuffered g k p) ≡ total_of p
  total-unbuffered k = ap (λ (h : Head). h.total) (laid-unbuffered g ok p long k).head

  module _ (words : HeadWords (head_of p)) where
    pub total-unlisted : (k : ℕ) → total_of (unlisted g k p) ≡ total_of p
    total-unlisted k = go (listed_at (listed_of p) k (list_of g p)) refl
      where
        go : (o : Option ℕ) → listed_at (listed_of p) k (list_of g p) ≡ o → total_of (unlisted g k p) ≡ total_of p
        go None e = ap total_of (not_listed g k p e)
        go (Some i) e = ap (λ (h : Head). h.total) (laid-unlisted g ok p long words k i e).head

    pub total-listed : (o : Option ℕ) → ((n : ℕ) → o ≡ Some n → listed_of p < g.list) → (k : ℕ) → total_of (listed_with o g k p) ≡ total_of p
    total-listed None free k = refl
    total-listed (Some n) free k = ap (λ (h : Head). h.total) (laid-listed g ok p long words (free n refl) k n).head

    pub total-flushed : (t : ℕ) → flushes_of p + 1 < 2 ^ 32 → total_of (flushed g t p) ≡ total_of p
    total-flushed t more = ap (λ (h : Head). h.total) (laid-flushed g ok p long words t more).head ∙ total-after g p
