use Rattle.std.proofs.Common.{Some, sym, ap, ◌∙◌}
use Rattle.pvlist.proofs.TranslationLemmas.{ended}
use Rattle.pvlist.proofs.translation.translate_counted.Goals as goal

pub returns-clause-ok : goal.returns-clause-ok
returns-clause-ok c =
    let read = rw (c.in_ok-text.ensures.ok, c.deref.ensures.value, c.in_ok-chars.ensures) at c.in_ok-groups.ensures.ok in
    ended _ _ read ∙ ap Some (sym c.in_ok-push_str.ensures.bytes)
