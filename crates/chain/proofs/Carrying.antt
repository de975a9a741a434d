-- The calls left what the definitions say, and their answers are heard as the definitions' are.
use Rattle.carrying.specs.Carrying.{CardCarries}
use Rattle.carrying.proofs.Carrying.{card-carries}
use Rattle.answers.specs.Performs.{areas}
use Rattle.chain.specs.Carrying.{CallsCarry}
use Rattle.chain.proofs.Chain.{chain-leaves, chain-heard, chain-opened}

pub calls-carry : CallsCarry
unfolding CallsCarry CardCarries
calls-carry m f m' f' g cs r rs made accepted = rw (chain-leaves made, chain-heard made) (card-carries (areas m f) g (chain-opened made accepted) cs)
