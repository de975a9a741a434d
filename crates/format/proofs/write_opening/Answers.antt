-- The eight writes are those of `with_opening`, in its order.
use Rattle.model.specs.Opening.{with_opening}
use Rattle.format.proofs.write_opening.Goals as goal

pub returns : goal.returns
unfolding with_opening
returns c =
    rw (c.write_u32-8.ensures, c.write_u32-7.ensures, c.write_u32-6.ensures, c.write_u32-5.ensures, c.write_u32-4.ensures, c.write_u32-3.ensures, c.write_u32-2.ensures, c.write_u32.ensures)
