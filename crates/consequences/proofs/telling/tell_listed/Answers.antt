use Rattle.std.proofs.Common.{fold, ap, sym, ◌∙◌}
use Rattle.gateway_state.specs.Gateway.{Gateway}
use Rattle.consequences.specs.InTurn.{told_once}
use Rattle.consequences.proofs.ValueWalk.{value_walk}
use Rattle.touched_rows.specs.Concern.{passes}
use Rattle.consequences.proofs.telling.tell_listed.Goals as goal

-- one walk tells all whom it concerns
pub returns-clause-ok : goal.returns-clause-ok
returns-clause-ok c =
    c.in_ok-tell_each.ensures.ok
    ∙ ap (λ (w : Gateway). fold (told_once (passes c.args.concern)) w c.args.subs.now) c.in_ok-tell_reads_on.ensures.ok
    ∙ sym (value_walk c.args.name.now c.args.concern c.args.rows.now.state c.args.subs.now c.requires.found c.requires.subs)
