-- What an accepted get has cost, on any areas: through the batches that it reads, whatever was spent before, then from the buffer page on.
use Prim.Native.Nat.{ℕ, ◌+◌, ◌*◌, ◌≤◌}
use mathlib.Core.Bool.{false, cond, not, true≢false}
use mathlib.Core.Path.{◌≡◌, refl, sym, ◌∙◌, ap}
use mathlib.Core.List.{List, [], ◌∷◌}
use Rattle.std.specs.Prelude.{Option, None, Some}
use native.Mathlib.Nat.{add-zero, zero-add, add_assoc, mul-suc}
use native.Mathlib.Omega.{arith}
use lib.ListN.{length}
use Rattle.model.specs.declared.Geometry.{Geometry}
use Rattle.model.specs.Search.{is_some}
use Rattle.model.specs.Geometry.{capacity}
use Rattle.model.specs.Keys.{partition_of, page_of}
use Rattle.model.specs.Page.{count_of, searched, compared, expected}
use Rattle.model.specs.DeleteList.{listed_at}
use Rattle.model.specs.Partition.{listed_of, list_of, buffer_of, passing}
use Rattle.model.specs.Answers.{Tally, tally, Refusal, Answer, buffer, batch}
use Rattle.model.specs.Batch.{batch_page}
use Rattle.model.specs.Get.{get_checks, hit_in, reads_for, reported, read_through, sought}
use Rattle.model.specs.Calls.{get, geometry_in, key_partition, checks, reply}
use Rattle.model.proofs.Tests.{either}
use Rattle.model.proofs.Calls.{later-passed, result-get, reply-refused, reply-accepted}
use Rattle.model.proofs.Checks.{key_fits}
use Rattle.model.proofs.KeyedChecks.{get-fits}
use Rattle.model.proofs.Lookup.{expected-head, compared-most, reads_none, with_page, read_none, read-batch, sought-listed, sought-unlisted}
use Rattle.history.specs.Reads.{read_of, batches_read, compared_in, entries_compared}
use Rattle.history.specs.Claim.{is_refused, reads_of, comparisons_of, Cost, GetsCost}

-- an answer's reads and comparisons: of so many pages, and so many entries, of which no more than these
record Costs (g : Geometry) (x : Answer) (pages compared most : ℕ) : Type 0 where
  reads : reads_of x ≡ reads_for g pages
  comparisons : comparisons_of x ≡ compared
  bounded : compared ≤ most

module _ (g : Geometry) (k : ℕ) (f : List ℕ) where
  abbrev page : ℕ → List ℕ
  page n = batch_page g (partition_of g k) f n (page_of g k)

  -- what is read of these batches
  abbrev read : List ℕ → List ℕ
  read ns = read_of g k f ns

  -- the answer x costs what c and the reading of these batches cost
  abbrev After : Tally → List ℕ → Answer → Type 0
  After c ns x = Costs g x (c.reads + length ns) (c.comparisons + compared_in g k f ns) (c.comparisons + capacity g * length ns)

  -- and what is read of batch n and of those behind it, where its page is as it must be: no more, if that page has the key
  with-page : (n : ℕ) (c : Tally) (later : Answer) (rest : List ℕ) (o : Option ℕ) → count_of (page n) ≤ capacity g
      → is_refused (hit_in (page n) (reported g (with_page g k f n c)) (batch n) o later) ≡ false → (is_refused later ≡ false → After (with_page g k f n c) rest later)
      → After c (n ∷ cond (not (is_some o)) rest []) (hit_in (page n) (reported g (with_page g k f n c)) (batch n) o later)
  unfolding compared_in
  with-page n c later rest (Some i) fits ok goes_on = record { reads = refl; comparisons = rw add-zero; bounded = omega (arith, compared-most k (page n)) }
  with-page n c later rest None fits ok goes_on =
      let w = goes_on ok in
      record {
        reads = w.reads ∙ ap (reads_for g) (omega arith);
        comparisons = w.comparisons ∙ add_assoc _ _ _;
        bounded = rw mul-suc (omega (arith, w.bounded, compared-most k (page n)));
      }

  through : (ns : List ℕ) (c : Tally) → is_refused (read_through g k f ns c) ≡ false → After c (read ns) (read_through g k f ns c)
  unfolding read_of compared_in
  through [] c ok = rw read_none (record { reads = rw add-zero; comparisons = rw add-zero; bounded = omega arith })
  through (n ∷ ns) c ok = either (expected g (partition_of g k) n (page_of g k) (page n))
      (λ good. rw (read-batch, good) (with-page n c _ _ (searched k (page n)) (expected-head g _ n _ (page n) good).fits (rw (read-batch, good) at ok) (through ns (with_page g k f n c))))
      (λ bad. absurd (true≢false (rw (read-batch, bad) at ok)))

  -- in the key's partition with the bytes p, whose buffer page for the key counts no more than fit
  module _ (p : List ℕ) (fits : count_of (buffer_of g p (page_of g k)) ≤ capacity g) where
    abbrev own : List ℕ
    own = buffer_of g p (page_of g k)

    abbrev cost : Tally
    cost = tally 0 (compared k own)

    abbrev later : Answer
    later = read_through g k f (passing g k p) cost

    abbrev Sought : ℕ → List ℕ → Answer → Type 0
    Sought entries ns x = Costs g x (length ns) entries (capacity g + capacity g * length ns)

    in_buffer : (o : Option ℕ) → is_refused (hit_in own cost buffer o later) ≡ false → let ns : List ℕ = cond (is_some o) [] (read (passing g k p)) in Sought (compared k own + compared_in g k f ns) ns (hit_in own cost buffer o later)
    unfolding compared_in
    in_buffer (Some i) ok = record { reads = sym (reads_none g); comparisons = rw add-zero; bounded = omega (arith, compared-most k own) }
    in_buffer None ok =
        let w = through (passing g k p) cost ok in
        record {
          reads = w.reads ∙ ap (reads_for g) (zero-add _);
          comparisons = w.comparisons;
          bounded = omega (arith, w.bounded, compared-most k own);
        }

    sought-costs : is_refused (sought g k p f) ≡ false → Sought (entries_compared g k p f) (batches_read g k p f) (sought g k p f)
    unfolding batches_read entries_compared
    sought-costs ok = go (listed_at (listed_of p) k (list_of g p)) refl
      where
        go : (o : Option ℕ) → listed_at (listed_of p) k (list_of g p) ≡ o → Sought (entries_compared g k p f) (batches_read g k p f) (sought g k p f)
        go (Some i) e = rw (sought-listed g k f p i e, e) (record { reads = sym (reads_none g); comparisons = refl; bounded = omega arith })
        go None e = rw (sought-unlisted g k f p e, e) (in_buffer (searched k own) (rw (sought-unlisted g k f p e) at ok))

pub gets-cost : GetsCost
unfolding GetsCost checks
gets-cost a k ok = go (checks a (get k)) refl
  where
    go : (o : Option Refusal) → checks a (get k) ≡ o → Cost a k
    go (Some r) e = absurd (true≢false (rw (reply-refused a (get k) r e) at ok))
    go None e =
        let g = geometry_in a in
        let p = key_partition a k in
        let answers : reply a (get k) ≡ sought g k p a.flash = reply-accepted a (get k) e ∙ result-get a g refl k in
        let fits = (key_fits g p k (get-fits g k p (later-passed a (get_checks g k p) e))).1 in
        let c = sought-costs g k a.flash p fits (rw answers at ok) in
        record { reads = ap reads_of answers ∙ c.reads; comparisons = ap comparisons_of answers ∙ c.comparisons; most = rw (answers, c.comparisons) c.bounded }
