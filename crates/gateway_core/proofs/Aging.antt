-- What is given up as time passes leaves the policy and the searches that are remembered.
use Rattle.std.proofs.Common.{◌≡◌, List, [], ◌∷◌, ◌&&◌, filter, refl, ◌∙◌}
use Rattle.std.specs.Prelude.{fold}
use Rattle.named_rows.specs.declared.reads.WaitingRead.{WaitingRead}
use Rattle.gateway_state.specs.Aged.{age_told, are_properties_overdue, is_link_overdue, link_given_up, links_given_up, properties_given_up, properties_given_up_on}
use Rattle.gateway_state.specs.Answer.{native_in}
use Rattle.gateway_state.specs.Gateway.{Gateway}
use Rattle.gateway_state.specs.Searches.{is_stale}
use Rattle.gateway_state.specs.Servers.{fails_without, read_failed, waits_for}
use Rattle.gateway_state.specs.Telling.{sent}
use Rattle.gateway_state.specs.Variables.{search_names}
use Rattle.link_table.specs.declared.links.LinkRow.{LinkRow}
use Rattle.link_table.specs.declared.links.Subject.TheVariants.{Properties}

-- what each change leaves is left by all of them
left_by_each : {A B : Type 0} (part : Gateway → B) (change : Gateway → A → Gateway) → ((w : Gateway) (row : A) → part (change w row) ≡ part w)
    → (rows : List A) (w : Gateway) → part (fold change w rows) ≡ part w
left_by_each part change left [] w = refl
left_by_each {A = A} part change left (row ∷ rows) w = left_by_each part change left rows (change w row) ∙ left w row

-- a part of the state that neither a read that fails nor a link that goes changes
module _ {B : Type 0} (part : Gateway → B) (read : (w : Gateway) (read : WaitingRead) → part (read_failed w read) ≡ part w)
    (link : (w : Gateway) (link : LinkRow) → part (link_given_up w link) ≡ part w) where
  after_properties : (w : Gateway) (link : LinkRow) → part (properties_given_up_on w link) ≡ part w
  after_properties w link =
      left_by_each part read_failed read (filter (λ read. waits_for w link.name read && fails_without Properties (native_in link.state) read) w.clients.reads) w

  part_left : (w : Gateway) → part (links_given_up (properties_given_up w)) ≡ part w
  part_left w =
      let v : Gateway = properties_given_up w in
      left_by_each part link_given_up link (filter (is_link_overdue v) v.upstream.links) v
      ∙ left_by_each part properties_given_up_on after_properties (filter (are_properties_overdue w) w.upstream.links) w

searches_left : (w : Gateway) → (age_told (links_given_up (properties_given_up w))).searches ≡ w.searches
unfolding sent
searches_left w = part_left (λ (v : Gateway). v.searches) (λ v read. refl) (λ v link. refl) w

policy_left : (w : Gateway) → (age_told (links_given_up (properties_given_up w))).policy ≡ w.policy
unfolding sent
policy_left w = part_left (λ (v : Gateway). v.policy) (λ v read. refl) (λ v link. refl) w

-- the searches that are stale then led where they lead now
pub stale_names_left : (w v : Gateway) → v ≡ age_told (links_given_up (properties_given_up w)) → search_names v.policy (filter is_stale v.searches) ≡ search_names w.policy (filter is_stale w.searches)
stale_names_left w v is =
    (λ i. search_names (is i).policy (filter is_stale (is i).searches))
    ∙ (λ i. search_names (policy_left w i) (filter is_stale (searches_left w i)))
