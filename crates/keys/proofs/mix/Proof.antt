-- The shifts and the exclusive ors are the definition's.
use mathlib.Core.Path.{refl}
use Rattle.model.specs.Keys.{mixed}
use Rattle.keys.proofs.mix.Statement.{statement}
use Rattle.keys.proofs.mix.Tie as tie

returns : tie.Need-returns
unfolding mixed
returns c = refl

pub mix_spec : {M : Type 1} → statement M
mix_spec = tie.close (tie.spec returns)
