-- What else holds from a format on.
use Prim.Native.Nat.{ℕ, ◌+◌, ◌*◌, ◌≤◌, ◌<◌}
use mathlib.Core.Bool.{true}
use mathlib.Core.Path.{◌≡◌}
use mathlib.Core.List.{◌∷◌}
use Rattle.model.specs.Geometry.{partitions, capacity}
use Rattle.model.specs.DeleteList.{stamp_at}
use Rattle.model.specs.Filter.{is_set, filter_for}
use Rattle.model.specs.Partition.{head_of, listed_of, list_of, slot, is_live, slot_bits}
use Rattle.model.specs.Answers.{Areas}
use Rattle.model.specs.Batch.{batch_page}
use Rattle.model.specs.Calls.{Call, format, geometry_in, partition_in, reply, run}
use Rattle.history.specs.History.{History, events, remember}
use Rattle.history.specs.Claim.{Fits, FromFormat}
use Rattle.history.proofs.InStep.{InStep}
use Rattle.history.proofs.Demand.{in_step}
use Rattle.history.proofs.Counts.{buffered, strong-count}
use Rattle.history.proofs.Exact.{filters-exact, stamps-live}
use Rattle.history.proofs.Refusing.{possible, Among, refusals-possible}

pub record Lasting (a : Areas) (h : History) : Type 0 where
  -- put pages × E, and Q for each entry in the buffers, is at most Q × puts
  pub count : h.put_pages * capacity h.geometry + h.geometry.pages * buffered a ≤ h.geometry.pages * h.puts
  -- a live batch's filter has exactly the bits of the one made of its pages
  pub filters : (t n b : ℕ) → t < partitions (geometry_in a) → is_live (head_of (partition_in a t)) n ≡ true → b < (geometry_in a).bits
      → slot_bits (geometry_in a) (partition_in a t) (slot (geometry_in a) n) b ≡ is_set (filter_for (geometry_in a) (batch_page (geometry_in a) t a.flash n)) b
  -- every stamp is a live batch
  pub stamps : (t i : ℕ) → t < partitions (geometry_in a) → i < listed_of (partition_in a t)
      → is_live (head_of (partition_in a t)) (stamp_at (list_of (geometry_in a) (partition_in a t)) i) ≡ true
  -- but for a format, refusals 2, 3, 11, 12 and 13 do not come up, nor do the 12 that comes last and the 13 for a head that a put, a flush or a drop reads
  pub refusals : (c : Call) → Fits c → Among (possible c) (reply a c)

lasts : (a : Areas) (h : History) → InStep a h → Lasting a h
lasts a h inv = record {
  count = strong-count a h inv;
  filters = λ t n b l. filters-exact a h inv t (rw inv.shows.geometry at l) n b;
  stamps = λ t i l. stamps-live a h inv t (rw inv.shows.geometry at l) i;
  refusals = refusals-possible a h inv;
}

pub lasting : FromFormat Lasting
lasting a h g accepted cs fits = lasts (run a (format g ∷ cs)) (remember h (events a (format g ∷ cs))) (in_step a h g accepted cs fits)
