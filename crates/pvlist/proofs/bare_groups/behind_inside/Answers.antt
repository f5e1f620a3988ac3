use Rattle.std.proofs.Common.{sym, ◌∙◌, false}
use Rattle.pvlist.specs.Syntax.{is_grouping}
use Rattle.pvlist.proofs.TranslationLemmas.{count_opened_open, count_opened_put}
use Rattle.pvlist.proofs.bare_groups.behind_inside.Goals as goal

pub returns-in-Some-clause-bare : goal.returns-in-Some-clause-bare
returns-in-Some-clause-bare c =
    count_opened_put is_grouping (λ _. false) _ _ c.in-len1-up.len_at_least (sym c.closing_place.ensures ∙ c.in-Some.is)

pub returns-in-None-clause-bare : goal.returns-in-None-clause-bare
returns-in-None-clause-bare c =
    count_opened_open is_grouping (λ _. false) _ c.in-len1-up.len_at_least (sym c.closing_place.ensures ∙ c.in-None.is)
