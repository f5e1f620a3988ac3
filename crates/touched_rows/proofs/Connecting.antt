-- What a server says of a channel that it was asked for is told on the channel's variable alone.
use Rattle.std.proofs.Common.{◌≡◌, ℕ, List, [], true, false, Some, refl, sym, ap, ◌∙◌}
use Rattle.std.specs.Prelude.{filter_map}
use Rattle.std.specs.List.{All, find, fold}
use Rattle.std.proofs.lemmas.Bool.{true≢false}
use Rattle.std.proofs.lemmas.List.Elements.{All-weaker}
use Rattle.std.proofs.lemmas.Slice.Eq.{bytes_eq-Decides}
use Rattle.rows.specs.Rows.{change_first}
use Rattle.channel_table.specs.ClientRows.{ClientRows}
use Rattle.named_rows.specs.declared.channels.Channel.{Channel}
use Rattle.link_table.specs.declared.links.LinkRow.{LinkRow}
use Rattle.link_table.specs.declared.links.LinkState.{LinkState}
use Rattle.link_table.specs.declared.links.LinkState.TheVariants.{Creating, Connected, Unusable}
use Rattle.link_table.specs.Links.{is_link, is_named, with_state}
use Rattle.gateway_state.specs.declared.connections.Connection.{Connection}
use Rattle.gateway_state.specs.declared.notice.LinkNotice.{LinkNotice}
use Rattle.gateway_state.specs.Gateway.{Gateway}
use Rattle.gateway_state.specs.Notices.{link_notices, link_notices_of, link_told, read_notice, read_notices, reads_told}
use Rattle.gateway_state.specs.Settled.{AreNumbersApart, HasLinksApart, IsInUse, IsSettled}
use Rattle.gateway_state.specs.Step.{consequences}
use Rattle.gateway_state.specs.Updates.{update_notice, update_notices, updates_told}
use Rattle.gateway_state.specs.Variables.{is_connected, is_creating, is_wanted, link_of}
use Rattle.gateway_state.proofs.LinksApart.{apart_changed}
use Rattle.gateway_state.proofs.SettledMeaning.{all_in_use, nothing_told}
use Rattle.gateway_state.proofs.SettledSteps.{reads_stay, updates_stay}
use Rattle.touched_rows.specs.Touched.{interest_notices_over, interest_told}
use Rattle.touched_rows.proofs.Blanked.{found_beside}
use Rattle.touched_rows.proofs.Connections.{HasNoMoreRoom}
use Rattle.touched_rows.proofs.LessGiven.{GivesNoMore}
use Rattle.touched_rows.proofs.LinksQuiet.{each_quiet}
use Rattle.touched_rows.proofs.OneLink.{interest_told_clients, less_interest_told, one_link_of, stays_over}
use Rattle.touched_rows.proofs.Passes.{from_links, no_reads, no_updates}
use Rattle.touched_rows.proofs.TouchedAlone.{all_with_changed, found_holds}
use Rattle.touched_rows.proofs.Tellings.{less_connections}
use Rattle.touched_rows.proofs.Unconnected.{no_channel, the_link}
use Rattle.touched_rows.proofs.UnseenRows.{IsUnseen, changed, channels_unseen, asks_unseen, reads_unseen, updates_unseen, withheld_unseen}

pub creating_unconnected : (state : LinkState) → is_creating state ≡ true → is_connected state ≡ false
creating_unconnected Creating creating = refl
creating_unconnected (Connected sid dtype count) creating = absurd (true≢false (sym creating))
creating_unconnected Unusable creating = refl

-- ---- the link of a channel that was asked for

module _ (w : Gateway) (settled : IsSettled w) (order : AreNumbersApart w) (links_apart : HasLinksApart w) (server cid : ℕ) (link : LinkRow)
    (found : find (is_link server cid) w.upstream.links ≡ Some link) (creating : is_creating link.state ≡ true) (state : LinkState) (rights : ℕ)
    (connections : List Connection) (room : HasNoMoreRoom w.connections connections) where
  abbrev links : List LinkRow
  links = change_first (is_link server cid) (with_state state rights) w.upstream.links

  unseen : All (IsUnseen w w.clients.sessions links) w.clients.channels
  unseen =
      All-weaker (λ (c : Channel). is_named c.real link ≡ false) (IsUnseen w w.clients.sessions links)
      (λ c fails. (
        refl,
        found_beside (is_named c.real) (is_link server cid) (with_state state rights) w.upstream.links
            (All-weaker (λ (row : LinkRow). is_link server cid row ≡ true → row ≡ link)
            (λ (row : LinkRow). is_link server cid row ≡ true → (is_named c.real row ≡ false) × (is_named c.real (with_state state rights row) ≡ false))
            (λ row one is. let here = ap (is_named c.real) (one is) ∙ fails in (here, here)) w.upstream.links (the_link w order server cid link found)),
      ))
      w.clients.channels (no_channel w order server cid link found settled links_apart (creating_unconnected link.state creating))

  abbrev x : Gateway
  x = changed w settled connections w.clients.sessions links w.upstream.counters unseen

  others_quiet : All (λ (row : LinkRow). is_named link.name row ≡ false → link_notices_of x row ≡ []) links
  others_quiet =
      all_with_changed (λ (row : LinkRow). is_named link.name row ≡ false → link_notices_of x row ≡ []) (is_link server cid) (with_state state rights) w.upstream.links
      (All-weaker (λ (row : LinkRow). link_notices_of x row ≡ []) (λ (row : LinkRow). is_named link.name row ≡ false → link_notices_of x row ≡ []) (λ row none other. none) w.upstream.links
      (each_quiet w x (asks_unseen w settled connections w.clients.sessions links w.upstream.counters unseen) (λ name there. there) w.upstream.links (all_in_use w settled)
      (nothing_told (link_notices_of w) w.upstream.links settled.links)))
      (λ row is none other.
      let same : link ≡ row = cc in
      absurd (true≢false (sym ((bytes_eq-Decides row.name link.name).1 (sym (ap (λ (k : LinkRow). k.name) same))) ∙ other)))

  wanted : is_wanted x link.name ≡ true
  wanted =
      let used : IsInUse w link = found_holds (IsInUse w) (is_link server cid) w.upstream.links link (all_in_use w settled) found in
      used.wanted

  plan : link_notices x ≡ interest_notices_over x (link_of x link.name)
  plan =
      one_link_of x link.name others_quiet (apart_changed w.upstream.links (is_link server cid) (with_state state rights) (λ name row. refl) links_apart link.name)
      ∙ stays_over x link.name wanted (link_of x link.name) refl

  abbrev y : Gateway
  y = interest_told link.name x

  less : GivesNoMore x y
  less = less_interest_told x link.name

  clients_same : y.clients ≡ x.clients
  clients_same = interest_told_clients x link.name

  reads_quiet : read_notices y ≡ []
  reads_quiet =
      ap (λ (rows : ClientRows). filter_map (read_notice y) rows.reads) clients_same
      ∙ no_reads x y less w.clients.reads (reads_unseen w settled connections w.clients.sessions links w.upstream.counters unseen)

  updates_quiet : update_notices y ≡ []
  updates_quiet =
      ap (λ (rows : ClientRows). filter_map (update_notice y) rows.subs) clients_same
      ∙ no_updates x y less w.clients.subs (updates_unseen w settled connections w.clients.sessions links w.upstream.counters unseen (less_connections w connections room).sessions)

  pub told_after_connecting : consequences (record w { connections = connections; upstream = record w.upstream { links = links } })
      ≡ interest_told link.name (record w { connections = connections; upstream = record w.upstream { links = links } })
  told_after_connecting =
      from_links x (channels_unseen w settled connections w.clients.sessions links w.upstream.counters unseen) (withheld_unseen w settled connections w.clients.sessions links w.upstream.counters unseen)
      ∙ ap (λ (notices : List LinkNotice). updates_told (reads_told (fold link_told x notices))) plan
      ∙ ap updates_told (reads_stay y reads_quiet)
      ∙ updates_stay y updates_quiet
