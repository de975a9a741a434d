-- The filter lies in front of the page, so each turn reads the page as it was.
use Rattle.std.proofs.Common.{◌≡◌, ◌+◌, ◌*◌, ◌≤◌, ◌<◌, ℕ, true, List, refl, sym, arith}
use Rattle.std.proofs.Math.Nat.{add-zero}
use Rattle.model.specs.declared.Geometry.{Geometry}
use Rattle.model.specs.Bytes.{word, mid}
use Rattle.model.specs.Geometry.{allowed, capacity}
use Rattle.model.specs.Page.{count_of}
use Rattle.model.specs.Filter.{with_entries}
use Rattle.model.proofs.Parts.{within-id}
use Rattle.model.proofs.Words.{word-mid}
use Rattle.model.proofs.Sizes.{sizes}
use Rattle.model.proofs.Bits.{entry-added}
use Rattle.filter.proofs.add_page.Goals as goal

-- a page's count as the code reads it, and where an entry within it ends
module _ (g : Geometry) (ok : allowed g ≡ true) (page : ℕ) (s : List ℕ) where
  count_read : word 2 s page ≡ count_of (mid page g.page s)
  count_read = let z = sizes g ok in rw (word-mid 2 s page g.page 0 (omega arith), add-zero) refl

  entry-within : (entry : ℕ) → count_of (mid page g.page s) ≤ capacity g → entry < word 2 s page → 16 * (entry + 1) + 8 ≤ g.page
  entry-within entry h l = let z = sizes g ok in let e = count_read in omega arith

pub u16_at-n-requires : goal.u16_at-n-requires
u16_at-n-requires c = let z = sizes _ c.requires.g_value in omega arith

pub loop-entry-init : goal.loop-entry-init
unfolding with_entries
loop-entry-init c = sym (within-id _ _ _ _ (omega arith) refl)

pub u64_at-key-requires : goal.u64_at-key-requires
u64_at-key-requires c =
    let a = c.args in
    omega (arith, entry-within a.g c.requires.g_value a.page a.s.now c.loop-entry.entry c.requires.s_bound (omega arith))

pub loop-entry-preserved : goal.loop-entry-preserved
loop-entry-preserved c =
    let a = c.args in
    let p = c.requires in
    let l : 16 * (c.loop-entry.entry + 1) + 8 ≤ a.g.page = entry-within a.g p.g_value a.page a.s.now c.loop-entry.entry p.s_bound (omega arith) in
    entry-added _ _ _ _ _ _ p.g_bound p.page_in_bounds l c.loop-entry.invariant c.u64_at-key.ensures c.mix.ensures c.add_key.ensures

pub returns : goal.returns
returns c =
    let a = c.args in
    let e : c.loop-entry.entry ≡ count_of (mid a.page a.g.page a.s.now) = omega (arith, count_read a.g c.requires.g_value a.page a.s.now) in
    rw (← e) c.loop-entry.invariant
