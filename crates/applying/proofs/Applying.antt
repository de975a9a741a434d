-- A line that says a call prints that call's answer and leaves what the call leaves; any other line is bad and leaves all as it is.
use Prim.Native.Nat.{ℕ, ◌+◌, ◌≤◌}
use mathlib.Core.List.{List}
use Rattle.std.specs.Prelude.{None, Some}
use mathlib.Core.Path.{◌≡◌, sym, ◌∙◌}
use native.Mathlib.Omega.{arith}
use lib.ListN.{length}
use Rattle.model.specs.Text.{text}
use Rattle.model.specs.Answers.{Areas, Answer}
use Rattle.model.specs.Calls.{Call}
use Rattle.model.specs.Session.{call_of, answer_text}
use Rattle.model.proofs.Sessions.{length-answer, prints-answer, leaves_after, prints-bad, leaves-same}
use Rattle.answers.specs.Performs.{areas, Performs}
use Rattle.printer.specs.Puts.{Puts, room}
use Rattle.applying.specs.Applies.{Applies}

pub calls : {line : List ℕ} {c : Call} {m f m' f' : List ℕ} {r : Answer} {at next : ℕ} {o o' : List ℕ} → at + room ≤ length o → Performs c m f r m' f' → Puts (answer_text r) at o next o' → call_of line ≡ Some c → Applies line (areas m f) at o next o' (areas m' f')
calls {line} {c} {m} {f} {r = r} l p w e = record { fits = omega (arith, w.ends, length-answer r); prints = rw (prints-answer line (areas m f) c e, ← p.answers) w; leaves = p.leaves ∙ sym (leaves_after line (areas m f) c e) }

pub bad : {line : List ℕ} {a : Areas} {at next : ℕ} {o o' : List ℕ} → at + room ≤ length o → Puts (text "(bad)\n") at o next o' → call_of line ≡ None → Applies line a at o next o' a
bad {line} {a} l w e = record { fits = omega (arith, w.ends); prints = rw (prints-bad line a e) w; leaves = sym (leaves-same line a e) }
