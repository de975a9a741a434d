-- A drop of bytes that show a partition shows the partition with its oldest live batch taken off.
use Prim.Native.Nat.{ℕ, ◌-◌, ◌≤◌}
use mathlib.Core.Bool.{true}
use mathlib.Core.Path.{◌≡◌, refl, ◌∙◌, ap, ap₂}
use mathlib.Core.List.{List}
use native.Mathlib.Omega.{arith}
use lib.ListN.{length}
use Rattle.model.specs.declared.Geometry.{Geometry}
use Rattle.model.specs.Geometry.{allowed}
use Rattle.model.specs.Partition.{flushes_of, listed_of, live_of, list_of}
use Rattle.model.specs.Drop.{dropped}
use Rattle.model.proofs.Tables.{Entry, strike}
use Rattle.model.proofs.ListEntries.{list_entries, entries-expired}
use Rattle.model.proofs.Heads.{words-dropped, flushes-dropped, listed-dropped, live-dropped}
use Rattle.model.proofs.PartitionsCalls.{list-long, laid-dropped}
use Rattle.history.proofs.Table.{Part, Live, expires, dropped as dropped_part}
use Rattle.history.proofs.Shows.{ShowsPart, shows-laid, list_count}

module _ (g : Geometry) (ok : allowed g ≡ true) (t : ℕ) (p f : List ℕ) (s : Part) (shows : ShowsPart g t p f s) (fits : length s.list ≤ g.list) (less : ℕ) where
  -- a batch that stays live was live
  was-live : (n : ℕ) → Live (dropped_part s) n → Live s n
  unfolding dropped_part
  was-live n live = record { first = live.first; flushed = live.flushed; near = omega (arith, live.near) }

  pub shows-dropped : ShowsPart g t (dropped g less p) f (dropped_part s)
  unfolding dropped_part
  shows-dropped = shows-laid ok (laid-dropped g ok p shows.long shows.words less)
      (words-dropped g less p shows.words)
      (flushes-dropped g less p ∙ shows.flushes)
      (live-dropped g less p ∙ ap (λ (n : ℕ). n - 1) shows.live)
      (ap₂ list_entries (listed-dropped g less p) refl
      ∙ entries-expired (listed_of p) (list_of g p) (omega (arith, fits, list_count shows, list-long g ok p shows.long)) (live_of p) (flushes_of p)
      ∙ rw shows.live (ap₂ (λ (F : ℕ) (l : List Entry). strike (expires s.live F) l) shows.flushes shows.list))
      shows.buffer
      (λ n live. shows.batch n (was-live n live))
      (λ n b live. shows.filter n b (was-live n live))
