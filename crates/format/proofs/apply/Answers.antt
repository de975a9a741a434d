-- The three steps are those of `formatted`, in its order, and the opening numbers lie inside the memory that is needed.
use Rattle.std.proofs.Common.{arith}
use Rattle.model.specs.Format.{formatted}
use Rattle.model.proofs.Sizes.{sizes, partition-from, partition-fits}
use Rattle.format.proofs.apply.Goals as goal

pub returns : goal.returns
unfolding formatted
returns c = rw (c.empty_partitions.ensures, c.write_opening.ensures, c.zero.ensures, c.memory_need.ensures)

pub write_opening-requires : goal.write_opening-requires
write_opening-requires c =
    let g = c.args.g in
    let z = sizes _ c.requires.g_value in
    omega (arith, partition-from g 0, partition-fits g 0 z.partitions-min)
