use Rattle.std.proofs.Common.{refl, sym, arith}
use Rattle.model.proofs.Parts.{still-long}
use Rattle.model.proofs.Partitions.{emptied-none, emptied-turn}
use Rattle.buffer.proofs.empty_pages.Goals as goal

pub loop-q-init : goal.loop-q-init
loop-q-init c = record { stays = refl; emptied = sym (emptied-none _ _ _) }

pub empty_page-requires-clause-whole : goal.empty_page-requires-clause-whole
empty_page-requires-clause-whole c = record { fine = c.requires.whole.fine; long = omega (arith, c.requires.whole.long) }

pub loop-q-preserved : goal.loop-q-preserved
loop-q-preserved c =
    let l = c.loop-q in
    let e = c.empty_page.ensures in
    record { stays = still-long _ _ _ _ e l.invariant.stays; emptied = emptied-turn _ _ _ l.q l.invariant.emptied e }
