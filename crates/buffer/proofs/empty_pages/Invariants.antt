use Rattle.std.proofs.Common.{◌≡◌, length}
use Rattle.model.specs.Format.{emptied_pages}
use Rattle.buffer.proofs.empty_pages.Given as goal

-- the pages before q are emptied
abbrev pub invariant-loop-q : goal.invariant-loop-q
invariant-loop-q l = record {
  stays : length l.part ≡ length l.fn.part;
  emptied : l.part ≡ emptied_pages l.g l.t l.q l.fn.part;
}
