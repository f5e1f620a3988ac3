-- A link that no channel is on goes, and nobody is told.
use Rattle.std.proofs.Common.{◌≡◌, ℕ, List, [], Bool, true, false, cond, Option, Some, None, refl, ap, ◌∙◌}
use Rattle.std.specs.Prelude.{filter}
use Rattle.std.specs.List.{All, find}
use Rattle.std.proofs.lemmas.List.Elements.{All-filter, All-weaker}
use Rattle.named_rows.specs.declared.channels.Channel.{Channel}
use Rattle.link_table.specs.declared.links.LinkRow.{LinkRow}
use Rattle.link_table.specs.Links.{is_link, is_named, is_not_link}
use Rattle.gateway_state.specs.Gateway.{Gateway}
use Rattle.gateway_state.specs.Notices.{link_notices, link_notices_of}
use Rattle.gateway_state.specs.Servers.{creation_refused, failed_for, without_link}
use Rattle.gateway_state.specs.Settled.{AreNumbersApart, HasLinksApart, IsSettled}
use Rattle.gateway_state.specs.Step.{consequences}
use Rattle.gateway_state.specs.Variables.{is_connected, is_creating, without_cached}
use Rattle.gateway_state.proofs.SettledMeaning.{all_in_use, nothing_told}
use Rattle.gateway_state.proofs.SettledSteps.{settled_stays}
use Rattle.touched_rows.proofs.Connecting.{creating_unconnected}
use Rattle.touched_rows.proofs.LinksQuiet.{each_quiet}
use Rattle.touched_rows.proofs.Passes.{no_reads, no_updates}
use Rattle.touched_rows.proofs.ReadersOf.{found_left, not_not}
use Rattle.touched_rows.proofs.Tellings.{less_without_cached}
use Rattle.touched_rows.proofs.TouchedAlone.{none_planned_flat}
use Rattle.touched_rows.proofs.Unconnected.{no_channel, the_link}
use Rattle.touched_rows.proofs.UnseenRows.{IsUnseen, changed, asks_unseen, settled_unseen}

-- without a link's last message nothing more is owed
pub settled_uncached : (cid : ℕ) (w : Gateway) → IsSettled w → IsSettled (without_cached cid w)
settled_uncached cid w settled = record {
  channels = settled.channels;
  held_back = settled.held_back;
  links = settled.links;
  reads = no_reads w (without_cached cid w) (less_without_cached cid w) w.clients.reads settled.reads;
  updates = no_updates w (without_cached cid w) (less_without_cached cid w) w.clients.subs settled.updates;
}

module _ (w : Gateway) (settled : IsSettled w) (order : AreNumbersApart w) (links_apart : HasLinksApart w) (server cid : ℕ) where
  module _ (link : LinkRow) (found : find (is_link server cid) w.upstream.links ≡ Some link) (unconnected : is_connected link.state ≡ false) where
    abbrev v : Gateway
    v = without_cached cid w

    abbrev settled_v : IsSettled v
    settled_v = settled_uncached cid w settled

    abbrev kept : List LinkRow
    kept = filter (is_not_link server cid) w.upstream.links

    unseen : All (IsUnseen v w.clients.sessions kept) w.clients.channels
    unseen =
        All-weaker (λ (c : Channel). is_named c.real link ≡ false) (IsUnseen v w.clients.sessions kept)
        (λ c fails. (
          refl,
          found_left (is_named c.real) (is_not_link server cid) w.upstream.links
              (All-weaker (λ (row : LinkRow). is_link server cid row ≡ true → row ≡ link) (λ (row : LinkRow). is_not_link server cid row ≡ false → is_named c.real row ≡ false)
              (λ row one gone. ap (is_named c.real) (one (not_not (is_link server cid row) gone)) ∙ fails) w.upstream.links (the_link w order server cid link found)),
        ))
        w.clients.channels (no_channel w order server cid link found settled links_apart unconnected)

    abbrev x : Gateway
    x = changed v settled_v w.connections w.clients.sessions kept w.upstream.counters unseen

    quiet : link_notices x ≡ []
    quiet =
        none_planned_flat (link_notices_of x) kept
        (All-filter (is_not_link server cid) (λ (row : LinkRow). link_notices_of x row ≡ []) w.upstream.links
        (each_quiet v x (asks_unseen v settled_v w.connections w.clients.sessions kept w.upstream.counters unseen) (λ name there. there) w.upstream.links (all_in_use v settled_v)
        (nothing_told (link_notices_of v) w.upstream.links settled_v.links)))

    pub settled_without : IsSettled (without_link server cid w)
    settled_without = settled_unseen v settled_v w.connections w.clients.sessions kept w.upstream.counters unseen (λ number open_to. open_to) quiet

  pub nothing_after_refusal : consequences (creation_refused w server cid) ≡ creation_refused w server cid
  nothing_after_refusal = settled_stays (creation_refused w server cid) (by (find (is_link server cid) w.upstream.links) refl)
    where
      over : (link : LinkRow) → find (is_link server cid) w.upstream.links ≡ Some link → (creating : Bool) → is_creating link.state ≡ creating → IsSettled (cond creating (without_link server cid w) w)
      over link is true creating = settled_without link is (creating_unconnected link.state creating)
      over link is false creating = settled

      by : (over_link : Option LinkRow) → find (is_link server cid) w.upstream.links ≡ over_link → IsSettled (failed_for server cid over_link w)
      by None is = settled
      by (Some link) is = over link is (is_creating link.state) refl
