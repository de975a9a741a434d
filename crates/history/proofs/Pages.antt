-- A page's bytes that show a list of entries, and that each change of the page keeps them in step.
use Prim.Native.Nat.{ℕ, ◌+◌, ◌*◌, ◌^◌, ◌≤◌, ◌<◌}
use mathlib.Core.Bool.{true, false}
use mathlib.Core.Path.{◌≡◌, refl, sym, ◌∙◌, ap}
use mathlib.Core.List.{List, []}
use Rattle.std.specs.Prelude.{Option, None, Some}
use native.Mathlib.Omega.{arith}
use lib.ListN.{length}
use Rattle.model.specs.declared.Geometry.{Geometry}
use Rattle.model.specs.Bytes.{word}
use Rattle.model.specs.Search.{is_some}
use Rattle.model.specs.Geometry.{allowed, capacity}
use Rattle.model.specs.Page.{count_of, searched, stored, without, emptied, numbered, expected}
use Rattle.model.proofs.Sizes.{sizes}
use Rattle.model.proofs.Lookup.{head-expected}
use Rattle.model.proofs.Lengths.{length-stored, length_without, length-emptied, length-numbered}
use Rattle.model.proofs.Tables.{Entry, find, store, erase, length-store, length-erase}
use Rattle.model.proofs.Entries.{page_entries, held_at, count_entries, find-searched, head-stored, entries-stored, head-without, entries-without, entries-emptied, count-emptied, numbers-emptied, zero-emptied, head-numbered, count-numbered, entries-numbered}

-- page q of partition t with these entries
pub record ShowsPage (g : Geometry) (t q : ℕ) (p : List ℕ) (es : List Entry) : Type 0 where
  pub long : length p ≡ g.page
  pub entries : page_entries p ≡ es
  pub fits : count_of p ≤ capacity g
  pub number : word 2 p 2 ≡ q
  pub partition : word 2 p 4 ≡ t
  pub zero : word 2 p 6 ≡ 0

-- it counts its entries, and a search of it finds what they hold
module _ {g : Geometry} {t q : ℕ} {p : List ℕ} {es : List Entry} (shows : ShowsPage g t q p es) where
  pub page-count : count_of p ≡ length es
  page-count = sym (count_entries p) ∙ ap length shows.entries

  pub page-find : (k : ℕ) → find k es ≡ held_at 8 p (searched k p)
  page-find k = ap (find k) (sym shows.entries) ∙ find-searched k p

  pub page-has : (k : ℕ) → is_some (searched k p) ≡ is_some (find k es)
  page-has k = rw (page-find k) (same (searched k p))
    where
      same : (o : Option ℕ) → is_some o ≡ is_some (held_at 8 p o)
      same None = refl
      same (Some i) = refl

  -- with its flush number it is as refusal 13 expects it
  pub page-expected : (n : ℕ) → word 4 p 8 ≡ n → expected g t n q p ≡ true
  page-expected n e = head-expected g t n q p (record { fits = shows.fits; number = shows.number; partition = shows.partition; zero = shows.zero; flush = e })

  module _ (ok : allowed g ≡ true) where
    room : 16 + 16 * count_of p ≤ length p
    room = omega (arith, (sizes g ok).page-is, shows.fits, shows.long)

    small : length p ≤ 4096
    small = omega (arith, (sizes g ok).page-max, shows.long)

    pub shows-stored : (k v : ℕ) → k < 2 ^ 64 → v < 2 ^ 64 → length (store k v es) ≤ capacity g → ShowsPage g t q (stored k v p) (store k v es)
    shows-stored k v hk hv free =
        let now : page_entries (stored k v p) ≡ store k v es = entries-stored p room small k v hk hv spare ∙ ap (store k v) shows.entries in
        record {
          long = length-stored k v p ∙ shows.long;
          entries = now;
          fits = omega (arith, count_entries (stored k v p), ap length now);
          number = head-stored k v p 2 2 (omega arith) (omega arith) ∙ shows.number;
          partition = head-stored k v p 2 4 (omega arith) (omega arith) ∙ shows.partition;
          zero = head-stored k v p 2 6 (omega arith) (omega arith) ∙ shows.zero;
        }
      where
        spare : searched k p ≡ None → 32 + 16 * count_of p ≤ length p
        spare e =
            let new : is_some (find k es) ≡ false = sym (page-has k) ∙ ap is_some e in
            omega (arith, simp (length-store, new) at free, page-count, (sizes g ok).page-is, shows.long)

    pub shows-without : (k : ℕ) → ShowsPage g t q (without k p) (erase k es)
    shows-without k =
        let now : page_entries (without k p) ≡ erase k es = entries-without p room small k ∙ ap (erase k) shows.entries in
        record {
          long = length_without k p ∙ shows.long;
          entries = now;
          fits = omega (arith, count_entries (without k p), ap length now, length-erase k es, page-count, shows.fits);
          number = head-without p room k 2 2 (omega arith) (omega arith) ∙ shows.number;
          partition = head-without p room k 2 4 (omega arith) (omega arith) ∙ shows.partition;
          zero = head-without p room k 2 6 (omega arith) (omega arith) ∙ shows.zero;
        }

  pub shows-numbered : (n : ℕ) → ShowsPage g t q (numbered n p) es
  shows-numbered n = record {
    long = length-numbered n p ∙ shows.long;
    entries = entries-numbered n p ∙ shows.entries;
    fits = rw (count-numbered n p) shows.fits;
    number = head-numbered n p 2 2 (omega arith) ∙ shows.number;
    partition = head-numbered n p 2 4 (omega arith) ∙ shows.partition;
    zero = head-numbered n p 2 6 (omega arith) ∙ shows.zero;
  }

-- a page that was emptied, whatever it held
pub shows-emptied : (g : Geometry) → allowed g ≡ true → (t q : ℕ) (p : List ℕ) → t < 65536 → q < 65536 → length p ≡ g.page → ShowsPage g t q (emptied q t p) []
shows-emptied g ok t q p ht hq long =
    let numbers = numbers-emptied q t p hq ht (omega (arith, (sizes g ok).page-min)) in
    record {
      long = length-emptied q t p ∙ long;
      entries = entries-emptied q t p;
      fits = omega (arith, count-emptied q t p);
      number = numbers.0;
      partition = numbers.1;
      zero = zero-emptied q t p 2 6 (omega arith);
    }
