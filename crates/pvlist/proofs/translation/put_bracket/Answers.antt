use Rattle.pvlist.proofs.TranslationLemmas.{bracket_opened, count_bracket_opened}
use Rattle.pvlist.proofs.translation.put_bracket.Goals as goal

pub returns-in_default-clause-ok : goal.returns-in_default-clause-ok
returns-in_default-clause-ok c =
    λ syntax. rw (bracket_opened syntax _ c.mark-item.result c.in-len1-up.len_at_least c.mark-item.is c.if-mark-eq94.false) (c.put_inside-in_default.ensures.ok syntax)

pub returns-in_default-clause-bad : goal.returns-in_default-clause-bad
returns-in_default-clause-bad c =
    λ syntax. rw (bracket_opened syntax _ c.mark-item.result c.in-len1-up.len_at_least c.mark-item.is c.if-mark-eq94.false) (c.put_inside-in_default.ensures.bad syntax)

pub returns-in_default-clause-groups : goal.returns-in_default-clause-groups
returns-in_default-clause-groups c =
    λ bare escaped. rw (count_bracket_opened bare escaped _ c.mark-item.result c.in-len1-up.len_at_least c.mark-item.is c.if-mark-eq94.false) (c.put_inside-in_default.ensures.groups bare escaped)
