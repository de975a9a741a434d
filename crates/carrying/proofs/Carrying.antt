-- What a card carries (02, job 7): an accepted format begins the pace that no calls exceed, and the list of puts that reaches it.
use Prim.Native.Nat.{ℕ}
use mathlib.Core.Bool.{false}
use mathlib.Core.Path.{◌≡◌, refl, sym}
use Rattle.std.specs.Prelude.{None}
use native.Mathlib.Omega.{arith}
use native.Mathlib.Nat.{mul-zero}
use Rattle.model.specs.declared.Geometry.{Geometry}
use Rattle.model.specs.Geometry.{capacity, partitions}
use Rattle.model.specs.Card.{first_lost}
use Rattle.model.specs.Answers.{Areas}
use Rattle.model.specs.Calls.{format, reply, after, run}
use Rattle.model.proofs.Sums.{sum-zero}
use Rattle.model.proofs.Calls.{result-format}
use Rattle.history.specs.History.{blank, turned_down, heard, events}
use Rattle.history.specs.Claim.{is_refused}
use Rattle.history.proofs.FromFormat.{not-refused, done-leaves}
use Rattle.history.proofs.InStep.{by-table, format-kept}
use Rattle.carrying.specs.Carrying.{puts_in, given, last_put, CardCarries}
use Rattle.carrying.proofs.Pacing as pacing
use Rattle.carrying.proofs.Filling.{filled_none}
use Rattle.carrying.proofs.Reaching as reaching
use Rattle.carrying.proofs.Reaching.{At}

start : (a : Areas) (g : Geometry) → is_refused (reply a (format g)) ≡ false
    → At g 0 (after a (format g)) (given (λ k. None) (heard (format g) (reply a (format g)))) × (heard (format g) (reply a (format g)) ≡ turned_down → ⊥)
start a g accepted =
    let passed = not-refused a (format g) accepted in
    done-leaves a (format g) (λ a' e. At g 0 a' (given (λ k. None) e) × (e ≡ turned_down → ⊥)) 0 (result-format a g) passed (
      record {
        paced = record {
          history = blank g;
          in_step = by-table (format-kept a g passed);
          puts = omega arith;
          paid = rw (sum-zero (partitions g)) (sym (mul-zero g.pages));
          few = rw (sum-zero (partitions g)) (omega arith);
          kept = λ l k hk. refl;
        };
        filled = filled_none (capacity g);
        last = λ l. absurd (omega arith);
      },
      λ e. let z : ◌≡◌ {A = ℕ} 0 1 = cc in omega arith,
    )

pub card-carries : CardCarries
unfolding CardCarries run events last_put first_lost
card-carries a g accepted cs =
    let begun = start a g accepted in
    record {
      within = λ fits between.
          let end = pacing.along cs fits between 0 (puts_in cs) (omega arith) _ _ begun.0.paced in
          record { flushes = pacing.few-flushes end; kept = pacing.none-lost end };
      reached = λ n below e. rw e
          (let end = reaching.along n below n 0 (omega arith) _ _ begun.0 in
          record {
            taken = (begun.1, end.1);
            flushes = reaching.most-flushes end.0;
            lost = λ many. record { last = end.0.last (omega arith); gone = reaching.first-lost end.0 many };
          });
    }
