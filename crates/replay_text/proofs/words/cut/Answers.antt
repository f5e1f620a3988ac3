use Rattle.std.proofs.Common.{sym, ◌∙◌}
use Rattle.replay_text.proofs.WordsLemmas.{slice_split-blank, slice_split-no_blank}
use Rattle.replay_text.proofs.words.cut.Goals as goal

pub returns-in-Some : goal.returns-in-Some
returns-in-Some c = slice_split-blank _ _ (sym c.first_blank.ensures ∙ c.in-Some.is)

pub returns-in-None : goal.returns-in-None
returns-in-None c = slice_split-no_blank _ (sym c.first_blank.ensures ∙ c.in-None.is)
