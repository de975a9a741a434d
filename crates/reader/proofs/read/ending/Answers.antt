-- Where something follows the text, the line goes on behind it.
use Rattle.std.proofs.Math.Seq.{drop-cons}
use Rattle.reader.proofs.read.ending.Goals as goal

pub returns-then-next-line : goal.returns-then-next-line
returns-then-next-line c = rw (← c.in_ok-next.ensures, drop-cons c.args.line.now c.in_ok-next.next 0 c.if-next-line.true)
