-- The calls of the C interface are the index's own, and are heard as those are.
use Rattle.model.specs.Calls.{replies}
use Rattle.chain.specs.Carrying.{CallsCarry}
use Rattle.chain.proofs.Carrying.{calls-carry}
use Rattle.linked.specs.Carrying.{LinkedCallsCarry}
use Rattle.linked.proofs.Linked.{performed, made-heard, made-opened}

pub linked-calls-carry : LinkedCallsCarry
unfolding LinkedCallsCarry CallsCarry replies
linked-calls-carry m f m' f' g cs r rs made opens = rw (made-heard made) (calls-carry m f m' f' g cs _ _ (performed made) (made-opened made opens))
