-- A change of sessions and links that no channel is on concerns no client.
use Rattle.std.proofs.Common.{◌≡◌, ℕ, List, [], ◌++◌, true, cond, eqb, ltb, not, ◌&&◌, Option, Some, None, refl, ap, ◌∙◌}
use Rattle.std.specs.Prelude.{bit_and, filter, filter_map, map}
use Rattle.std.specs.List.{All, find}
use Rattle.std.proofs.lemmas.List.Elements.{All-weaker}
use Rattle.ca_message.specs.declared.codes.TheConstants.{ECA_NORDACCESS}
use Rattle.named_rows.specs.declared.channels.Channel.{Channel}
use Rattle.named_rows.specs.declared.reads.WaitingRead.{WaitingRead}
use Rattle.channel_table.specs.declared.sessions.Session.{Session}
use Rattle.named_rows.specs.declared.subs.ClientSub.{ClientSub}
use Rattle.named_rows.specs.Channels.{is_channel, is_on}
use Rattle.channel_table.specs.Sessions.{is_numbered}
use Rattle.named_rows.specs.Demand.{own_ask}
use Rattle.link_table.specs.declared.links.LinkRow.{LinkRow}
use Rattle.link_table.specs.LinkRows.{Counters}
use Rattle.link_table.specs.Links.{is_named}
use Rattle.gateway_state.specs.declared.connections.Connection.{Connection}
use Rattle.gateway_state.specs.declared.notice.ReadNotice.TheVariants.{Refused}
use Rattle.gateway_state.specs.Gateway.{Gateway}
use Rattle.gateway_state.specs.Interest.{is_read_through, is_reader, is_subscriber, reader_ask, readers}
use Rattle.gateway_state.specs.Notices.{answered_over, channel_notice, channel_notices, link_notices, notice_on, read_notice, read_notices}
use Rattle.gateway_state.specs.Resolution.{is_real, rights_left}
use Rattle.gateway_state.specs.Rights.{channel_of, is_served, lead_for, lead_in, link_connected, link_rights, may_read, rights_of}
use Rattle.gateway_state.specs.Settled.{IsSettled}
use Rattle.gateway_state.specs.Updates.{is_unreadable, update_notice, update_notices, update_on, update_over, withheld}
use Rattle.gateway_state.specs.Variables.{connected_over, link_of}
use Rattle.gateway_state.proofs.SettledChannels.{notice_by}
use Rattle.gateway_state.proofs.SettledMeaning.{none_told}
use Rattle.touched_rows.proofs.LessGiven.{is_given_to, update_if_open}
use Rattle.touched_rows.proofs.ReadersOf.{filtered_alike, planned_alike}
use Rattle.touched_rows.proofs.TouchedAlone.{found_holds, none_planned}

-- the channel's name leads where it led, and its variable has the link that it had
abbrev pub IsUnseen : Gateway → List Session → List LinkRow → Channel → Type 0
IsUnseen w sessions links c =
    (lead_for w.policy c.asked (find (is_numbered c.session) sessions) ≡ lead_in w c.session c.asked) × (find (is_named c.real) links ≡ link_of w c.real)

module _ (w : Gateway) (settled : IsSettled w) (connections : List Connection) (sessions : List Session) (links : List LinkRow) (counters : Counters)
    (unseen : All (IsUnseen w sessions links) w.clients.channels) where
  abbrev pub changed : Gateway
  changed = record w {
    connections = connections;
    clients = record w.clients { sessions = sessions };
    upstream = record w.upstream { links = links; counters = counters };
  }

  rights_same : (c : Channel) → IsUnseen w sessions links c → rights_of changed c ≡ rights_of w c
  rights_same c same = let leads = same.0 in let over = same.1 in λ i. bit_and (link_rights (over i)) (rights_left w.policy (leads i))

  served_same : (c : Channel) → IsUnseen w sessions links c → is_served changed c ≡ is_served w c
  served_same c same = let leads = same.0 in let over = same.1 in λ i. is_real (leads i) c.real && link_connected (over i)

  -- a channel that is found
  there : (session sid : ℕ) (c : Channel) → channel_of w session sid ≡ Some c → IsUnseen w sessions links c
  there session sid c is = found_holds (IsUnseen w sessions links) (is_channel session sid) w.clients.channels c unseen is

  pub channels_unseen : channel_notices changed ≡ []
  channels_unseen =
      planned_alike (channel_notice changed) (channel_notice w) w.clients.channels
      (All-weaker (IsUnseen w sessions links) (λ (c : Channel). channel_notice changed c ≡ channel_notice w c)
      (λ c same. let served = served_same c same in
      let rights = rights_same c same in
      λ i. notice_by (served i) (eqb c.rights_told (rights i)) (rights i) c)
      w.clients.channels unseen)
      ∙ settled.channels

  unreadable_same : (session sid : ℕ) → is_unreadable changed (channel_of w session sid) ≡ is_unreadable w (channel_of w session sid)
  unreadable_same session sid = by (channel_of w session sid) refl
    where
      by : (found : Option Channel) → channel_of w session sid ≡ found → is_unreadable changed found ≡ is_unreadable w found
      by None is = refl
      by (Some c) is = ap (λ (rights : ℕ). not (may_read rights)) (rights_same c (there session sid c is))

  pub withheld_unseen : withheld changed ≡ []
  withheld_unseen = (λ i. filter (λ (sub : ClientSub). not sub.owed && unreadable_same sub.session sub.sid i) w.clients.subs) ∙ settled.held_back

  subscriber_same : (name : List ℕ) (sub : ClientSub) → is_subscriber changed name sub ≡ is_subscriber w name sub
  subscriber_same name sub = by (channel_of w sub.session sub.sid) refl
    where
      by : (found : Option Channel) → channel_of w sub.session sub.sid ≡ found → is_read_through changed name found ≡ is_read_through w name found
      by None is = refl
      by (Some c) is = ap (λ (rights : ℕ). is_on name c && may_read rights) (rights_same c (there sub.session sub.sid c is))

  pub asks_unseen : (name : List ℕ) → readers changed name ≡ readers w name
  asks_unseen name =
      let channels = filtered_alike (is_reader changed name) (is_reader w name) w.clients.channels
      (All-weaker (IsUnseen w sessions links) (λ (c : Channel). is_reader changed name c ≡ is_reader w name c)
      (λ c same. ap (λ (rights : ℕ). is_on name c && ltb 0 c.reach.count && may_read rights) (rights_same c same)) w.clients.channels unseen) in
      λ i. map own_ask (filter (λ (sub : ClientSub). subscriber_same name sub i) w.clients.subs) ++ map reader_ask (channels i)

  read_same : (read : WaitingRead) → read_notice changed read ≡ read_notice w read
  read_same read = by (channel_of w read.session read.sid) refl
    where
      by : (found : Option Channel) → channel_of w read.session read.sid ≡ found → notice_on changed read found ≡ notice_on w read found
      by None is = refl
      by (Some c) is =
          let same = there read.session read.sid c is in
          let over = same.1 in
          let rights = rights_same c same in
          λ i. cond (may_read (rights i)) (answered_over w read (connected_over (over i))) (Some (Refused read ECA_NORDACCESS))

  pub reads_unseen : read_notices changed ≡ []
  reads_unseen = (λ i. filter_map (λ (read : WaitingRead). read_same read i) w.clients.reads) ∙ settled.reads

  pub said_unseen : (sub : ClientSub) → update_on changed sub (channel_of w sub.session sub.sid) ≡ update_on w sub (channel_of w sub.session sub.sid)
  said_unseen sub = by (channel_of w sub.session sub.sid) refl
    where
      by : (found : Option Channel) → channel_of w sub.session sub.sid ≡ found → update_on changed sub found ≡ update_on w sub found
      by None is = refl
      by (Some c) is =
          let same = there sub.session sub.sid c is in
          let over = same.1 in
          let rights = rights_same c same in
          λ i. cond (may_read (rights i)) (update_over w sub (connected_over (over i))) None

  -- where no session takes updates that didn't before
  module _ (open_before : (number : ℕ) → is_given_to changed number ≡ true → is_given_to w number ≡ true) where
    pub updates_unseen : update_notices changed ≡ []
    updates_unseen =
        none_planned (update_notice changed) w.clients.subs
        (All-weaker (λ (sub : ClientSub). update_notice w sub ≡ None) (λ (sub : ClientSub). update_notice changed sub ≡ None)
        (λ sub none. update_if_open w changed sub (open_before sub.session) (λ unsaid. said_unseen sub ∙ unsaid) none)
        w.clients.subs (none_told (update_notice w) w.clients.subs settled.updates))

    pub settled_unseen : link_notices changed ≡ [] → IsSettled changed
    settled_unseen none = record { channels = channels_unseen; held_back = withheld_unseen; links = none; reads = reads_unseen; updates = updates_unseen }
