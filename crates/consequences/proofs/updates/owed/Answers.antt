use Rattle.std.proofs.Common.{rules, filter, ap, ◌∙◌}
use Rattle.std.proofs.lemmas.Fn.{filter_same}
use Rattle.gateway_rows.specs.CountedState.{CountedState}
use Rattle.gateway_rows.specs.Own.{is_owed}
use Rattle.consequences.proofs.updates.owed.Goals as goal

-- those of all subscriptions that are owed an update
pub returns-clause-found : goal.returns-clause-found
returns-clause-found c =
    filter_same _ is_owed _ (λ x b f' k. search rules) _ _ c.retain.ensures.filtered
    ∙ ap (filter is_owed) c.in_ok-subs.ensures.found
    ∙ ap (λ (s : CountedState). filter is_owed s.state.clients.subs) c.rows.view_is
