-- The live batches that pass a key are the same, by the filters' bits and by the entries; and so is whether a del must list it.
use Prim.Native.Nat.{ℕ, zero, suc, ◌+◌, ◌-◌, ◌≤◌}
use mathlib.Core.Bool.{Bool, true, not, ◌&&◌}
use mathlib.Core.Path.{◌≡◌, refl, ap}
use mathlib.Core.List.{List, [], ◌∷◌}
use native.Mathlib.Omega.{arith}
use Rattle.model.specs.declared.Geometry.{Geometry}
use Rattle.model.specs.Search.{is_some}
use Rattle.model.specs.Geometry.{allowed}
use Rattle.model.specs.Partition.{batch_passes, passing_from, passing}
use Rattle.model.specs.Del.{is_listed, youngest, stamp_for}
use Rattle.model.proofs.Tables.{find, has_bit, passes_in}
use Rattle.model.proofs.Passing.{batch-passes}
use Rattle.history.proofs.Table.{Part, Live, is_empty, must_list, passing_from as passing_in, passing as passing_of}
use Rattle.history.proofs.Shows.{ShowsPart, list-has}

module _ (g : Geometry) (ok : allowed g ≡ true) (t : ℕ) (p f : List ℕ) (s : Part) (shows : ShowsPart g t p f s) (k : ℕ) where
  passes-shown : (n : ℕ) → Live s n → batch_passes g k p n ≡ passes_in g (s.batch n) k
  passes-shown n live = batch-passes g ok k p n (has_bit g (s.batch n)) (λ b. shows.filter n b live)

  passing-from : (count n : ℕ) → count ≤ n → n ≤ s.flushes → s.flushes + count ≤ n + s.live → passing_from g k p count n ≡ passing_in g k s count n
  unfolding passing_from passing_in
  passing-from zero n a b c = refl
  passing-from (suc count) n a b c =
      rw (passes-shown n (record { first = omega arith; flushed = b; near = omega arith }), passing-from count (n - 1) (omega arith) (omega arith) (omega arith))

  pub passing-shown : s.live ≤ s.flushes → passing g k p ≡ passing_of g k s
  unfolding passing
  passing-shown within = rw (shows.live, shows.flushes) (passing-from s.live s.flushes within (omega arith) (omega arith))

  pub must-list-shown : s.live ≤ s.flushes → not (is_listed g k p) && is_some (stamp_for g k p) ≡ must_list g k s
  unfolding must_list
  must-list-shown within = rw (list-has shows k, passing-shown within) (ap (λ (b : Bool). not (is_some (find k s.list)) && b) (some-youngest (passing_of g k s)))
    where
      some-youngest : (ns : List ℕ) → is_some (youngest ns) ≡ not (is_empty ns)
      some-youngest [] = refl
      some-youngest (n ∷ ns) = refl
