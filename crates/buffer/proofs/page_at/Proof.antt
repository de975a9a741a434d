-- The page is the key's own.
use mathlib.Core.Path.{◌∙◌, ap}
use native.Mathlib.Omega.{arith}
use borrow.Author.Rules.{rules}
use Rattle.model.specs.Geometry.{buffer_at}
use Rattle.model.proofs.Sizes.{page-of-lt}
use Rattle.buffer.proofs.page_at.Statement.{statement}
use Rattle.buffer.proofs.page_at.Tie as tie

buffer-at-requires : tie.Need-buffer_at-requires
buffer-at-requires c κs = let l = page-of-lt _ c.requires c.args.key in (c.requires, rw c.page_of.ensures (omega arith))

returns : tie.Need-returns
returns c = c.buffer_at.ensures ∙ ap (buffer_at c.args.g) c.page_of.ensures

pub page_at_spec : {M : Type 1} → statement M
page_at_spec = tie.close (tie.spec (λ c κs. search rules) buffer-at-requires returns)
