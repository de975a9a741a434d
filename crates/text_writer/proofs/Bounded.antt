-- The text of a readable partition has at most 25850880 bytes: 33 sources of 64 pages of 255 lines of 48 bytes.
use Prim.Native.Nat.{ℕ, ◌≤◌}
use mathlib.Core.List.{List}
use lib.ListN.{length}
use Rattle.model.specs.declared.Geometry.{Geometry}
use Rattle.model.specs.Partition.{head_of}
use Rattle.model.specs.PartitionText.{source, partition_text}
use Rattle.model.proofs.Heads.{head-fits}
use Rattle.model.proofs.Joining.{text-most}
use Rattle.sources.specs.Readable.{Readable}
use Rattle.sources.proofs.Sources.{source_is, source-page-fits}

pub text-bound : (g : Geometry) (t : ℕ) (p f : List ℕ) → Readable g t p f → length (partition_text g t p f) ≤ 25850880
text-bound g t p f r = text-most g t p f r.whole.fine (head-fits g (head_of p) r.head).kept (λ i q b h. (source-page-fits g t p f r (source (head_of p) i) q (source_is g t p f r i) h).1)
