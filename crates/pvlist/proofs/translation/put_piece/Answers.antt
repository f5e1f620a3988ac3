use Rattle.std.proofs.lemmas.Result.{IfOk-weaker}
use Rattle.pvlist.specs.Syntax.{opens_bare, opens_escaped}
use Rattle.pvlist.proofs.TranslationLemmas.{groups_bracket}
use Rattle.pvlist.proofs.translation.put_piece.Goals as goal

pub returns-then-c-eq91-clause-groups : goal.returns-then-c-eq91-clause-groups
returns-then-c-eq91-clause-groups c =
    IfOk-weaker _ _ _ (λ left. groups_bracket c.args.syntax c.args.c c.args.rest.now left.now c.if-c-eq91.true)
    (c.put_bracket.ensures.groups (opens_bare c.args.syntax) (opens_escaped c.args.syntax))
