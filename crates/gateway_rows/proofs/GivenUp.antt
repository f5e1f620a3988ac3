-- Links that are given up, by their IDs.
use Rattle.std.proofs.Common.{◌≡◌, List, [], ◌∷◌, refl}
use Rattle.std.specs.Prelude.{filter, fold, map}
use Rattle.link_table.specs.declared.links.LinkRow.{LinkRow}
use Rattle.gateway_rows.specs.LinkIds.{link_id, without_link_of}
use Rattle.gateway_state.specs.Aged.{is_link_overdue, link_given_up, links_given_up}
use Rattle.gateway_state.specs.Gateway.{Gateway}

by_ids : (w : Gateway) (links : List LinkRow) → fold without_link_of w (map link_id links) ≡ fold link_given_up w links
by_ids w [] = refl
by_ids w (link ∷ links) = by_ids (link_given_up w link) links

pub given_up_by_ids : (w : Gateway) → fold without_link_of w (map link_id (filter (is_link_overdue w) w.upstream.links)) ≡ links_given_up w
given_up_by_ids w = by_ids w (filter (is_link_overdue w) w.upstream.links)
