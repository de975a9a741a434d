-- A put of 0 is refused on any areas. So the history never hears of one: from a format on each key that it knows has a value of 64 bits that is not 0.
use Prim.Native.Nat.{ℕ, ◌+◌, ◌^◌, ◌<◌}
use mathlib.Core.Bool.{Bool, true, false, cond}
use mathlib.Core.Path.{◌≡◌, ap}
use Rattle.std.specs.Prelude.{Option, None, Some}
use native.Mathlib.Omega.{arith}
use lib.Dec.{eqb, ltb}
use Rattle.model.specs.Keys.{partition_of}
use Rattle.model.specs.Answers.{Areas}
use Rattle.model.specs.Calls.{Call, format, put, get, del, flush, view, count, text, drop, reply}
use Rattle.model.proofs.Calls.{put-not-0}
use Rattle.history.specs.History.{Known, History, older, aged, unless_aged, accepted, heard, note}
use Rattle.history.specs.Claim.{Fits, value_of, FromFormat}
use Rattle.history.proofs.FromFormat.{heard-as, not-refused, from-format}

-- what the history knows of a key is a position: not 0, and of 64 bits
abbrev pub IsPosition : ℕ → Type 0
IsPosition v = (v ≡ 0 → ⊥) × (v < 2 ^ 64)

abbrev pub Position : Option Known → Type 0
Position None = Unit {0}
Position (Some w) = IsPosition w.value

abbrev pub AllPositions : History → Type 0
AllPositions h = (k : ℕ) → Position (h.keys k)

cond-position : (b : Bool) (x y : Option Known) → Position x → Position y → Position (cond b x y)
cond-position true x y p q = p
cond-position false x y p q = q

older-position : (kept : ℕ) (o : Option Known) → Position o → Position (older kept o)
unfolding older
older-position kept None p = tt
older-position kept (Some w) p = cond-position (ltb kept (w.age + 1)) None (Some (record { value = w.value; age = w.age + 1 })) tt p

aged-position : (t : ℕ) (h : History) → AllPositions h → AllPositions (aged t h)
aged-position t h p k = cond-position (eqb (partition_of h.geometry k) t) _ _ (older-position h.geometry.kept (h.keys k) (p k)) (p k)

unaged-position : (age : ℕ) (o : Option Known) → Position o → Position (unless_aged age o)
unfolding unless_aged
unaged-position age None p = tt
unaged-position age (Some w) p = cond-position (eqb w.age age) None (Some w) tt p

accepted-position : (h : History) (c : Call) (n : ℕ) → Fits c → ((k : ℕ) → c ≡ put k 0 → ⊥) → AllPositions h → AllPositions (note h (accepted c n))
unfolding note
accepted-position h (format g) n fits other p k = tt
accepted-position h (put j v) n fits other p k =
    cond-position (eqb k j) (Some (record { value = v; age = 0 })) _ ((λ z. other j (ap (put j) z)), fits.1) (flushed (eqb n 0) k)
  where
    flushed : (b : Bool) → AllPositions (cond b h (aged (partition_of h.geometry j) h))
    flushed true = p
    flushed false = aged-position (partition_of h.geometry j) h p
accepted-position h (get j) n fits other p k = p k
accepted-position h (del j) n fits other p k = cond-position (eqb k j) None (h.keys k) tt (p k)
accepted-position h (flush t) n fits other p k = aged-position t h p k
accepted-position h (view t q m) n fits other p k = p k
accepted-position h (count t) n fits other p k = p k
accepted-position h (text t room) n fits other p k = p k
accepted-position h (drop t) n fits other p k = cond-position (eqb (partition_of h.geometry k) t) _ _ (unaged-position (h.live t) (h.keys k) (p k)) (p k)

position-kept : (a : Areas) (h : History) → AllPositions h → (c : Call) → Fits c → AllPositions (note h (heard c (reply a c)))
unfolding note
position-kept a h p c fits = heard-as c (λ e. AllPositions (note h e)) (reply a c)
    (λ taken n. accepted-position h c n fits (λ k own. put-not-0 a k (rw own at (not-refused a c taken))) p)
    p

pub all-positions : FromFormat (λ a h. AllPositions h)
all-positions = from-format (λ a h. AllPositions h) (λ a g passed k. tt) position-kept

-- and so no 0 is shown
pub value-nonzero : (o : Option Known) → Position o → Some (value_of o) ≡ Some (Some 0) → ⊥
value-nonzero None p e = let z : ◌≡◌ {A = ℕ} 0 1 = cc in omega arith
value-nonzero (Some w) p e = p.0 cc
