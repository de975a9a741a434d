-- A first figure, and either it is not 0 or no figure follows it.
use Rattle.std.proofs.Common.{refl, sym}
use Rattle.figures.proofs.Reading.{figure-here, leading-none, plain_more, plain-zero}
use Rattle.figures.proofs.is_plain.Goals as goal

pub returns-then-not-is_figure : goal.returns-then-not-is_figure
returns-then-not-is_figure c = rw (leading-none _ _ (sym c.if-not-is_figure.ensures))

pub bounds-line-at : goal.bounds-line-at
bounds-line-at c = (figure-here _ _ (sym c.if-not-is_figure.ensures)).0

pub returns-then-line-at-ne48 : goal.returns-then-line-at-ne48
returns-then-line-at-ne48 c = sym (plain_more _ _ (sym c.if-not-is_figure.ensures) c.if-line-at-ne48.true)

pub returns : goal.returns
returns c = let h = plain-zero c.args.line.now c.args.at c.if-line-at-ne48.false _ refl in cc
