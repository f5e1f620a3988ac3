-- What is given up and forgotten as time passes keeps what each change of rows keeps.
use Rattle.std.proofs.Common.{List, [], ◌∷◌, ◌&&◌}
use Rattle.std.specs.Prelude.{filter, map}
use Rattle.std.specs.List.{fold}
use Rattle.link_table.specs.declared.links.LinkRow.{LinkRow}
use Rattle.link_table.specs.declared.links.Subject.TheVariants.{Properties}
use Rattle.gateway_state.specs.Aged.{age_told, aged, are_properties_overdue, is_link_overdue, link_given_up, links_given_up, properties_given_up, properties_given_up_on}
use Rattle.gateway_state.specs.Answer.{native_in}
use Rattle.gateway_state.specs.Gateway.{Gateway}
use Rattle.gateway_state.specs.Searches.{grown_stale, is_fresh}
use Rattle.gateway_state.specs.Servers.{fails_without, waits_for}
use Rattle.gateway_state.proofs.Kept.{KeepsRows}
use Rattle.gateway_state.proofs.KeptByServers.{kept_all_failed}

module _ (P : Gateway → Type 0) (kept : KeepsRows P) where
  kept_given_up_on : (w : Gateway) (link : LinkRow) → P w → P (properties_given_up_on w link)
  kept_given_up_on w link holds =
      kept_all_failed P kept (filter (λ read. waits_for w link.name read && fails_without Properties (native_in link.state) read) w.clients.reads) w holds

  kept_all_given_up_on : (links : List LinkRow) (w : Gateway) → P w → P (fold properties_given_up_on w links)
  kept_all_given_up_on [] w holds = holds
  kept_all_given_up_on (link ∷ links) w holds = kept_all_given_up_on links (properties_given_up_on w link) (kept_given_up_on w link holds)

  kept_links_given_up : (links : List LinkRow) (w : Gateway) → P w → P (fold link_given_up w links)
  kept_links_given_up [] w holds = holds
  kept_links_given_up (link ∷ links) w holds = kept_links_given_up links (link_given_up w link) (kept.link_removed link.server link.cid w holds)

  pub kept_aged : (w : Gateway) → P w → P (aged w)
  kept_aged w holds =
      let first : Gateway = properties_given_up w in
      let second : Gateway = links_given_up first in
      let third : Gateway = age_told second in
      kept.searches (map grown_stale (filter is_fresh third.searches)) third
      (kept.last_age (record { cid = second.upstream.counters.cid; subscription = second.upstream.counters.subscription }) second
      (kept_links_given_up (filter (is_link_overdue first) first.upstream.links) first
      (kept_all_given_up_on (filter (are_properties_overdue w) w.upstream.links) w holds)))
