-- The struct that the code hands about, as the definitions' record.
use Rattle.model.specs.Partition as model
use Rattle.head.specs.declared.Head.{Head}

abbrev pub as_head : Head → model.Head
as_head h = record { flushes = h.flushes; listed = h.listed; total = h.total; live = h.live }
