-- The whole text of a partition, read into a fresh table: page by page and source by source.
use Prim.Native.Nat.{ℕ, suc, ◌+◌, ◌≤◌, ◌<◌}
use mathlib.Core.Bool.{true, true≢false}
use mathlib.Core.Path.{◌≡◌, sym, ◌∙◌}
use mathlib.Core.List.{List}
use Rattle.std.specs.Prelude.{Option}
use native.Mathlib.Omega.{arith}
use Rattle.model.specs.declared.Geometry.{Geometry}
use Rattle.model.specs.Geometry.{capacity}
use Rattle.model.specs.Records.{key_at}
use Rattle.model.specs.Page.{count_of, value_at}
use Rattle.model.specs.Partition.{head_of, live_of}
use Rattle.model.specs.Answers.{Areas, Place}
use Rattle.model.specs.PartitionText.{source, source_page, answers_with, entry_text, page_text, source_text, partition_text}
use Rattle.model.proofs.Tests.{either}
use Rattle.model.proofs.Joining.{page-text, source-text, partition-text, entry-line, entry-none}
use Rattle.history.specs.History.{History}
use Rattle.history.proofs.Replay.{Ends, ends-none, ends-map, Upto, ends-joined}
use Rattle.history.proofs.ReplayState.{At, next-entry, next-page, next-source}
use Rattle.history.proofs.ReplayLine.{ends-line-of}
use Rattle.history.proofs.TextLines.{Line}

-- the key of a line: at a place of a page, of a source, of the text
abbrev pub LineAt : Geometry → ℕ → List ℕ → List ℕ → Place → ℕ → ℕ → ℕ → Type 0
LineAt g t p f at q n k = (answers_with g t p f at q (n + 1) ≡ true) × (k ≡ key_at (source_page g t p f at q) (n + 1))

abbrev pub InPage : Geometry → ℕ → List ℕ → List ℕ → Place → ℕ → ℕ → Type 0
InPage g t p f at q k = Upto (count_of (source_page g t p f at q)) (LineAt g t p f at q) k

abbrev pub InSource : Geometry → ℕ → List ℕ → List ℕ → ℕ → ℕ → Type 0
InSource g t p f i k = Upto g.pages (InPage g t p f (source (head_of p) i)) k

abbrev pub InText : Geometry → ℕ → List ℕ → List ℕ → ℕ → Type 0
InText g t p f k = Upto (live_of p + 1) (InSource g t p f) k

module _ (g : Geometry) (t : ℕ) (p f : List ℕ) (values : ℕ → Option ℕ)
    (line : (at : Place) (q i : ℕ) → answers_with g t p f at q i ≡ true → Line g t q values (key_at (source_page g t p f at q) i) (value_at (source_page g t p f at q) i))
    (fits : (i q : ℕ) → q < g.pages → count_of (source_page g t p f (source (head_of p) i) q) ≤ capacity g) (kept : live_of p ≤ g.kept) where
  abbrev State : ℕ → ℕ → ℕ → Areas → History → Type 0
  State i q n b h = At g t values i q n b h

  module _ (i : ℕ) (sources : i ≤ live_of p) where
    abbrev at : Place
    at = source (head_of p) i

    ends-entry : (q n : ℕ) → n < capacity g → (b : Areas) (h : History) → State i q n b h → Ends (entry_text g t p f at q (n + 1)) b h (State i q (suc n)) (LineAt g t p f at q n)
    ends-entry q n room b h state = either (answers_with g t p f at q (n + 1))
        (λ e. rw (entry-line g t p f at q (n + 1) e)
        (ends-map (λ b' h' s. s) (λ k stands. stands.1) (ends-line-of g t values i q n b h state (omega arith) room _ _ (line at q (n + 1) e))))
        (λ e. rw (entry-none g t p f at q (n + 1) e) (ends-none (next-entry state) (λ k stands. true≢false (sym stands.0 ∙ e))))

    ends-page : (q : ℕ) → q < g.pages → (b : Areas) (h : History) → State i q 0 b h → Ends (page_text g t p f at q) b h (State i (suc q) 0) (InPage g t p f at q)
    ends-page q l b h state =
        let n : ℕ = count_of (source_page g t p f at q) in
        rw (page-text g t p f at q) (ends-map (λ b' h' s. next-page s) (λ k stands. stands)
        (ends-joined (λ j. entry_text g t p f at q (j + 1)) (State i q) (LineAt g t p f at q) n (λ m lm. ends-entry q m (omega (arith, fits i q l))) n (omega arith) b h state))

    ends-source : (b : Areas) (h : History) → State i 0 0 b h → Ends (source_text g t p f at) b h (State (suc i) 0 0) (InSource g t p f i)
    ends-source b h state = rw (source-text g t p f at) (ends-map (λ b' h' s. next-source s) (λ k stands. stands)
        (ends-joined (page_text g t p f at) (λ q. State i q 0) (InPage g t p f at) g.pages ends-page g.pages (omega arith) b h state))

  pub ends-text : (b : Areas) (h : History) → State 0 0 0 b h → Ends (partition_text g t p f) b h (State (live_of p + 1) 0 0) (InText g t p f)
  ends-text b h state =
      let n : ℕ = live_of p + 1 in
      rw (partition-text g t p f)
      (ends-joined (λ i. source_text g t p f (source (head_of p) i)) (λ i. State i 0 0) (InSource g t p f) n (λ i l. ends-source i (omega arith)) n (omega arith) b h state)
