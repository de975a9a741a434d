-- The page's bytes are a 32-bit number.
use Rattle.std.proofs.Common.{arith}
use Rattle.mortxizal.proofs.Sizes.{size_fits}
use Rattle.mortxizal.proofs.mx_view.Goals as goal

pub of_viewed-requires : goal.of_viewed-requires
of_viewed-requires c = size_fits _ _ _ _ _ _ (λ i. omega (arith, c.type_inv.memory i)) c.view_outcome.ensures.performs.answers
