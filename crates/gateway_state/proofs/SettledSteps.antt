-- Each pass keeps settled what the passes before it settled.
use Rattle.std.proofs.Common.{◌≡◌, ℕ, List, [], ◌∷◌, ◌++◌, Bool, true, false, cond, eqb, ltb, not, ◌||◌, ◌&&◌, Option, Some, None, refl, ap, ◌∙◌}
use Rattle.std.specs.Prelude.{filter, filter_map, flat_map, map, bit_and}
use Rattle.std.specs.List.{fold, find, list_any, cons_option}
use Rattle.std.proofs.lemmas.Slice.Eq.{bytes_eq-Decides}
use Rattle.named_rows.specs.declared.channels.Channel.{Channel}
use Rattle.named_rows.specs.declared.subs.ClientSub.{ClientSub}
use Rattle.named_rows.specs.Channels.{is_channel, is_on}
use Rattle.named_rows.specs.Demand.{own_ask}
use Rattle.link_table.specs.declared.links.LinkRow.{LinkRow}
use Rattle.link_table.specs.LinkRows.{Counters}
use Rattle.gateway_state.specs.declared.cached.LastMessage.{LastMessage}
use Rattle.gateway_state.specs.declared.connections.Connection.{Connection}
use Rattle.gateway_state.specs.declared.notice.ChannelNotice.{ChannelNotice}
use Rattle.gateway_state.specs.declared.notice.LinkNotice.{LinkNotice}
use Rattle.gateway_state.specs.declared.notice.ReadNotice.{ReadNotice}
use Rattle.gateway_state.specs.declared.notice.UpdateNotice.{UpdateNotice}
use Rattle.gateway_state.specs.Gateway.{Gateway}
use Rattle.gateway_state.specs.Interest.{is_read_through, is_reader, is_subscriber, reader_ask, readers}
use Rattle.gateway_state.specs.Notices.{channel_notice, channel_notices, channels_told, link_notices, links_told, reads_told, channel_told, link_told, read_notices, read_told}
use Rattle.gateway_state.specs.Resolution.{is_real, rights_left}
use Rattle.gateway_state.specs.Rights.{channel_of, is_served, lead_in, may_read, rights_of}
use Rattle.gateway_state.specs.Settled.{AreNumbersApart, HasSubsApart, IsSettled}
use Rattle.gateway_state.specs.Step.{consequences}
use Rattle.gateway_state.specs.Updates.{is_unreadable, is_withheld, owed_to_all, update_notices, update_told, updates_told, updates_withheld, withheld}
use Rattle.gateway_state.specs.Variables.{is_wanted}
use Rattle.gateway_state.specs.Searches.{leads_to}
use Rattle.gateway_state.proofs.NumbersApart.{numbers_apart_kept}
use Rattle.gateway_state.proofs.KeptByRuns.{kept_channels_told, kept_links_told, kept_reads_told, kept_updates_withheld}
use Rattle.gateway_state.proofs.LinkNotices.{link_notices_alike}
use Rattle.gateway_state.proofs.SettledChannels.{channels_settled, notice_by}
use Rattle.gateway_state.proofs.SettledLinks.{IsLeft, IsPassed, links_passed, with_links_left}
use Rattle.gateway_state.proofs.SettledReads.{reads_keep_channels, reads_keep_links, reads_keep_withheld, reads_settled}
use Rattle.gateway_state.proofs.SettledUpdates.{updates_keep_channels, updates_keep_links, updates_keep_reads, updates_keep_withheld, updates_settled}
use Rattle.gateway_state.proofs.SettledWithheld.{withheld_keeps_channels, withheld_settled}
use Rattle.gateway_state.proofs.SubsApart.{subs_apart_kept}

-- ---- the links that are left mean the same to each channel

-- a channel that is found is on its own variable
pub found_is_on : (test : Channel → Bool) (rows : List Channel) (c : Channel) → find test rows ≡ Some c → list_any (is_on c.real) rows ≡ true
found_is_on test [] c e = absurd cc
found_is_on test (row ∷ rows) c e = by (test row) e (λ rest. found_is_on test rows c rest)
  where
    by : (passes : Bool) → cond passes (Some row) (find test rows) ≡ Some c → (find test rows ≡ Some c → list_any (is_on c.real) rows ≡ true) → (is_on c.real row || list_any (is_on c.real) rows) ≡ true
    by true e rest =
        let same : row ≡ c = cc in
        ap (λ (t : Bool). t || list_any (is_on c.real) rows) ((bytes_eq-Decides row.real c.real).1 (ap (λ (x : Channel). x.real) same))
    by false e rest = elim (is_on c.real row) as (λ t. (t || list_any (is_on c.real) rows) ≡ true) [ true ↦ refl | false ↦ rest e ]

module _ (w : Gateway) (connections : List Connection) (cache : List LastMessage) (links : List LinkRow) (counters : Counters) (left : IsLeft w w.upstream.links links) where
  abbrev v : Gateway
  v = with_links_left w connections cache links counters

  rights_same : (c : Channel) → is_wanted w c.real ≡ true → rights_of v c ≡ rights_of w c
  rights_same c wanted = ap (λ (rights : ℕ). bit_and rights (rights_left w.policy (lead_in w c.session c.asked))) (left.rights c.real wanted)

  served_same : (c : Channel) → is_wanted w c.real ≡ true → is_served v c ≡ is_served w c
  served_same c wanted =
      ap (λ (connected : Bool). is_real (lead_in w c.session c.asked) c.real && connected) (left.connected c.real wanted)

  abbrev AreWanted : List Channel → Type 0
  AreWanted channels = (name : List ℕ) → list_any (is_on name) channels ≡ true → is_wanted w name ≡ true

  first_wanted : (c : Channel) (channels : List Channel) → AreWanted (c ∷ channels) → is_wanted w c.real ≡ true
  first_wanted c channels wanted = wanted c.real (ap (λ (t : Bool). t || list_any (is_on c.real) channels) ((bytes_eq-Decides c.real c.real).1 refl))

  others_wanted : (c : Channel) (channels : List Channel) → AreWanted (c ∷ channels) → AreWanted channels
  others_wanted c channels wanted name there =
      wanted name (elim (is_on name c) as (λ t. (t || list_any (is_on name) channels) ≡ true) [ true ↦ refl | false ↦ there ])

  readers_same : (name : List ℕ) (channels : List Channel) → AreWanted channels → filter (is_reader v name) channels ≡ filter (is_reader w name) channels
  readers_same name [] wanted = refl
  readers_same name (c ∷ channels) wanted =
      let rights = rights_same c (first_wanted c channels wanted) in
      let rest = readers_same name channels (others_wanted c channels wanted) in
      λ i. cond (is_on name c && ltb 0 c.reach.count && may_read (rights i)) (c ∷ rest i) (rest i)

  channel_notices_same : (channels : List Channel) → AreWanted channels → filter_map (channel_notice v) channels ≡ filter_map (channel_notice w) channels
  channel_notices_same [] wanted = refl
  channel_notices_same (c ∷ channels) wanted =
      let rights = rights_same c (first_wanted c channels wanted) in
      let served = served_same c (first_wanted c channels wanted) in
      let rest = channel_notices_same channels (others_wanted c channels wanted) in
      λ i. cons_option (notice_by (served i) (eqb c.rights_told (rights i)) (rights i) c) (rest i)

  all_wanted : AreWanted w.clients.channels
  all_wanted name there = ap (λ (t : Bool). t || list_any (leads_to w.policy name) w.searches) there

  -- the channel of a subscription has the same rights
  found_rights : (session sid : ℕ) (c : Channel) → channel_of w session sid ≡ Some c → rights_of v c ≡ rights_of w c
  found_rights session sid c is = rights_same c (all_wanted c.real (found_is_on (is_channel session sid) w.clients.channels c is))

  subscriber_same : (name : List ℕ) (sub : ClientSub) → is_subscriber v name sub ≡ is_subscriber w name sub
  subscriber_same name sub = by (channel_of w sub.session sub.sid) refl
    where
      by : (found : Option Channel) → channel_of w sub.session sub.sid ≡ found → is_read_through v name found ≡ is_read_through w name found
      by None is = refl
      by (Some c) is = ap (λ (rights : ℕ). is_on name c && may_read rights) (found_rights sub.session sub.sid c is)

  subscribers_same : (name : List ℕ) (subs : List ClientSub) → filter (is_subscriber v name) subs ≡ filter (is_subscriber w name) subs
  subscribers_same name [] = refl
  subscribers_same name (sub ∷ subs) =
      let first = subscriber_same name sub in
      let rest = subscribers_same name subs in
      λ i. cond (first i) (sub ∷ rest i) (rest i)

  withheld_same : (sub : ClientSub) → is_withheld v sub ≡ is_withheld w sub
  withheld_same sub = by (channel_of w sub.session sub.sid) refl
    where
      by : (found : Option Channel) → channel_of w sub.session sub.sid ≡ found → (not sub.owed && is_unreadable v found) ≡ (not sub.owed && is_unreadable w found)
      by None is = refl
      by (Some c) is = ap (λ (rights : ℕ). not sub.owed && not (may_read rights)) (found_rights sub.session sub.sid c is)

  all_withheld_same : (subs : List ClientSub) → filter (is_withheld v) subs ≡ filter (is_withheld w) subs
  all_withheld_same [] = refl
  all_withheld_same (sub ∷ subs) =
      let first = withheld_same sub in
      let rest = all_withheld_same subs in
      λ i. cond (first i) (sub ∷ rest i) (rest i)

  pub left_withheld_same : withheld v ≡ withheld w
  left_withheld_same = all_withheld_same w.clients.subs

  asks_same : (name : List ℕ) → readers v name ≡ readers w name
  asks_same name =
      let subs = subscribers_same name w.clients.subs in
      let channels = readers_same name w.clients.channels all_wanted in
      λ i. map own_ask (subs i) ++ map reader_ask (channels i)

  pub left_links_settled : link_notices v ≡ []
  left_links_settled = (λ i. flat_map (λ link. link_notices_alike v w asks_same (λ server. refl) (λ name. refl) link i) links) ∙ left.quiet

  pub left_channels_same : channel_notices v ≡ channel_notices w
  left_channels_same = channel_notices_same w.clients.channels all_wanted

-- after the pass over links none is owed a notice, nor is a channel that was owed none
links_settled : (w v : Gateway) → IsPassed w v → link_notices v ≡ []
links_settled w v passed =
    ap link_notices passed.is ∙ left_links_settled w passed.connections passed.cache passed.links passed.counters passed.left

pub links_keep_channels : (w v : Gateway) → IsPassed w v → channel_notices v ≡ channel_notices w
links_keep_channels w v passed =
    ap channel_notices passed.is ∙ left_channels_same w passed.connections passed.cache passed.links passed.counters passed.left

links_keep_withheld : (w v : Gateway) → IsPassed w v → withheld v ≡ withheld w
links_keep_withheld w v passed =
    ap withheld passed.is ∙ left_withheld_same w passed.connections passed.cache passed.links passed.counters passed.left

-- ---- the passes

module _ (w : Gateway) (order : AreNumbersApart w) (apart : HasSubsApart w) where
  abbrev first : Gateway
  first = channels_told w

  abbrev second : Gateway
  second = updates_withheld first

  abbrev third : Gateway
  third = links_told second

  abbrev fourth : Gateway
  fourth = reads_told third

  first_apart : HasSubsApart first
  first_apart = kept_channels_told HasSubsApart subs_apart_kept.rows w apart

  fourth_apart : HasSubsApart fourth
  fourth_apart =
      kept_reads_told HasSubsApart subs_apart_kept.rows third (kept_links_told HasSubsApart subs_apart_kept.rows second (kept_updates_withheld HasSubsApart subs_apart_kept.rows first first_apart))

  passed : IsPassed second third
  passed = links_passed second (kept_updates_withheld AreNumbersApart numbers_apart_kept.rows first (kept_channels_told AreNumbersApart numbers_apart_kept.rows w order)).links

  -- before updates are given
  held_back : withheld fourth ≡ []
  held_back = reads_keep_withheld third ∙ links_keep_withheld second third passed ∙ withheld_settled first first_apart

  pub consequences_settled : IsSettled (consequences w)
  consequences_settled = record {
    channels = updates_keep_channels fourth ∙ reads_keep_channels third ∙ links_keep_channels second third passed ∙ withheld_keeps_channels first ∙ channels_settled w order.channels;
    held_back = updates_keep_withheld fourth fourth_apart held_back;
    links = updates_keep_links fourth ∙ reads_keep_links third ∙ links_settled second third passed;
    reads = updates_keep_reads fourth ∙ reads_settled third;
    updates = updates_settled fourth fourth_apart held_back;
  }

-- ---- what is settled

-- nothing to tell, nothing told
pub channels_stay : (w : Gateway) → channel_notices w ≡ [] → channels_told w ≡ w
channels_stay w none = ap (λ (notices : List ChannelNotice). fold channel_told w notices) none

pub links_stay : (w : Gateway) → link_notices w ≡ [] → links_told w ≡ w
links_stay w none = ap (λ (notices : List LinkNotice). fold link_told w notices) none

pub reads_stay : (w : Gateway) → read_notices w ≡ [] → reads_told w ≡ w
reads_stay w none = ap (λ (notices : List ReadNotice). fold read_told w notices) none

pub withheld_stay : (w : Gateway) → withheld w ≡ [] → updates_withheld w ≡ w
withheld_stay w none = ap (λ (subs : List ClientSub). owed_to_all w subs) none

pub updates_stay : (w : Gateway) → update_notices w ≡ [] → updates_told w ≡ w
updates_stay w none = ap (λ (notices : List UpdateNotice). fold update_told w notices) none

pub settled_stays : (w : Gateway) → IsSettled w → consequences w ≡ w
settled_stays w settled =
    ap (λ (v : Gateway). updates_told (reads_told (links_told (updates_withheld v)))) (channels_stay w settled.channels)
    ∙ ap (λ (v : Gateway). updates_told (reads_told (links_told v))) (withheld_stay w settled.held_back)
    ∙ ap (λ (v : Gateway). updates_told (reads_told v)) (links_stay w settled.links)
    ∙ ap updates_told (reads_stay w settled.reads)
    ∙ updates_stay w settled.updates
