use Rattle.std.proofs.Common.{arith}
use Rattle.page_reader.proofs.Given.{given-entry}
use Rattle.page_reader.proofs.ReaderIterator.next.Goals as goal

-- the place is a used one of a page that fits into memory
pub overflow_add-self : goal.overflow_add-self
overflow_add-self c =
    let e = given-entry _ _ c.next.ensures c.in_ok-entry.was in
    omega (arith, e.0, c.requires)

pub returns-clause-goes : goal.returns-clause-goes
returns-clause-goes c =
    let e = given-entry _ _ c.next.ensures c.in_ok-entry.was in
    record { on = λ f. (c.requires, tt, omega (arith, e.0)); keeps = c.requires; rests = λ f. tt }
