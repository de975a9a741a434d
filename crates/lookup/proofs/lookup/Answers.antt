-- A listed key has no entry; of any other the search answers.
use Rattle.std.proofs.Common.{sym, ◌∙◌}
use Rattle.model.proofs.Checks.{key_fits}
use Rattle.model.proofs.Lookup.{sought-listed, sought-unlisted}
use Rattle.lookup.proofs.lookup.Goals as goal

pub find-requires-clause-part_value : goal.find-requires-clause-part_value
find-requires-clause-part_value c = (key_fits _ _ _ c.requires.part_value).0

pub returns-in-Some : goal.returns-in-Some
returns-in-Some c = sym (sought-listed _ _ _ _ _ (sym c.in-Some.ensures))

pub returns-in-None : goal.returns-in-None
returns-in-None c = c.search_both.ensures ∙ sym (sought-unlisted _ _ _ _ (sym c.in-None.ensures))
