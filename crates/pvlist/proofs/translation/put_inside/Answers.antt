use Rattle.std.proofs.Common.{refl, sym, ◌∙◌, arith}
use Rattle.pvlist.proofs.TranslationLemmas.{count_opened_put, opened_open, opened_put}
use Rattle.pvlist.proofs.translation.put_inside.Goals as goal

pub returns-in_default-closing_place-clause-bad : goal.returns-in_default-closing_place-clause-bad
returns-in_default-closing_place-clause-bad c =
    λ syntax _. opened_open syntax _ _ c.in-len1-up.len_at_least (sym c.closing_place.ensures ∙ c.in_default-closing_place.is)

pub returns-clause-ok : goal.returns-clause-ok
returns-clause-ok c =
    λ syntax. opened_put syntax _ _ _ _ _ c.in-len1-up.len_at_least (sym c.closing_place.ensures ∙ c.in-Some.is)
    (rw (c.in_ok-push.ensures.bytes, c.in_ok-push.ensures.ascii (omega arith), c.in_ok-put_members.ensures, c.in_ok-push_str.ensures.bytes) refl)

pub returns-clause-groups : goal.returns-clause-groups
returns-clause-groups c =
    λ bare escaped. count_opened_put bare escaped _ _ c.in-len1-up.len_at_least (sym c.closing_place.ensures ∙ c.in-Some.is)
