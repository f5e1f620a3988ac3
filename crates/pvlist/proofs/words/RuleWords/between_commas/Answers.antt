use Rattle.std.proofs.Common.{option_map, ap, ◌∙◌}
use Rattle.pvlist.specs.Words.{between_commas}
use Rattle.pvlist.proofs.WordLemmas.{words_left-between_commas}
use Rattle.pvlist.proofs.words.RuleWords.between_commas.Goals as goal

pub returns : goal.returns
returns c =
    words_left-between_commas c.self.inside.commas (option_map (λ text. text.now) c.self.inside.rest) ∙ ap between_commas c.self.view_is
