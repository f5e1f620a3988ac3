-- What each change of rows keeps, every run keeps.
use Rattle.std.proofs.Common.{◌≡◌, ℕ, List, [], ◌∷◌, Bool, None, true, false, refl}
use Rattle.std.specs.Prelude.{filter, is_some}
use Rattle.std.specs.List.{All, fold}
use Rattle.std.proofs.lemmas.List.Elements.{All-head, All-tail}
use Rattle.ca_header.specs.declared.header.Message.{Message}
use Rattle.ca_message.specs.declared.codes.TheConstants.{ECA_NORDACCESS}
use Rattle.ca_message.specs.declared.to_client.ToClient.TheVariants as replies
use Rattle.ca_message.specs.declared.to_server.ToServer.TheVariants as requests
use Rattle.named_rows.specs.declared.subs.ClientSub.{ClientSub}
use Rattle.named_rows.specs.Subs.{is_sub_on}
use Rattle.link_table.specs.declared.links.LinkState.TheVariants.{Creating, Connected, Unusable}
use Rattle.link_table.specs.declared.links.Subject.TheVariants.{Values, Properties}
use Rattle.gateway_state.specs.declared.event.Dest.TheVariants as dests
use Rattle.gateway_state.specs.declared.event.Event.{Event}
use Rattle.gateway_state.specs.declared.event.Event.TheVariants.{Opened, Lost, Client, UpOpened, UpLost, Server, Found, Search, Sweep, Edit, Drain, Limit, Age, Probe, Seek}
use Rattle.gateway_state.specs.declared.notice.ChannelNotice.{ChannelNotice}
use Rattle.gateway_state.specs.declared.notice.ChannelNotice.TheVariants.{Disconnected, RightsChanged}
use Rattle.gateway_state.specs.declared.notice.LinkNotice.{LinkNotice}
use Rattle.gateway_state.specs.declared.notice.LinkNotice.TheVariants.{Cancelled, Unread, Subscribed, Dropped}
use Rattle.gateway_state.specs.declared.notice.ReadNotice.{ReadNotice}
use Rattle.gateway_state.specs.declared.notice.ReadNotice.TheVariants.{Refused, Answered}
use Rattle.gateway_state.specs.declared.notice.UpdateNotice.{UpdateNotice}
use Rattle.fanout.specs.Outbox.{without_first}
use Rattle.gateway_state.specs.Asked.{acts}
use Rattle.gateway_state.specs.CachedRows.{is_cached_elsewhere}
use Rattle.gateway_state.specs.Clients.{remembered, sought, without_channel}
use Rattle.gateway_state.specs.Delivered.{before_said}
use Rattle.gateway_state.specs.Direct.{direct_effect}
use Rattle.gateway_state.specs.Gateway.{Gateway}
use Rattle.gateway_state.specs.Notices.{channel_notices, channel_told, channels_told, link_notices, link_told, links_told, loses_reading, next_sub_id, read_notices, read_told, reading_ended, reads_told, with_reach, with_subscription_of, without_read}
use Rattle.gateway_state.specs.Requests.{client_said}
use Rattle.gateway_state.specs.Resolution.{lead_of}
use Rattle.gateway_state.specs.Rights.{channel_of}
use Rattle.gateway_state.specs.Servers.{found, server_said, without_link}
use Rattle.gateway_state.specs.Step.{consequences, run, step}
use Rattle.gateway_state.specs.Subscribing.{unreadable_told}
use Rattle.gateway_state.specs.Telling.{told}
use Rattle.gateway_state.specs.Updates.{takes_updates, update_notices, update_told, updates_withheld, with_owed_of, withheld}
use Rattle.gateway_state.proofs.Kept.{IsKept, KeepsLinks, KeepsQuotes, KeepsRows, by_any, kept_either, kept_owed_to_all, quotes_kept, with_new_subscription}
use Rattle.gateway_state.proofs.KeptByAge.{kept_aged}
use Rattle.gateway_state.proofs.KeptByClients.{kept_client_said, kept_opened, kept_remembered, kept_sought}
use Rattle.gateway_state.proofs.LaidOutValues.{IsAnswer, IsUpdate, reads_laid, updates_laid}
use Rattle.gateway_state.proofs.KeptByServers.{kept_found, kept_server_said, kept_up_opened}

module _ (P : Gateway → Type 0) (kept : KeepsRows P) where
  -- what an event says, where what quotes its message keeps it, and new links do
  pub kept_by_event : (w : Gateway) (event : Event) → ((number : ℕ) (message : Message) → event ≡ Client number message → KeepsQuotes P number message)
      → ((name : List ℕ) (server : ℕ) → P w → P (found w name server)) → P (before_said w event) → P (direct_effect w event)
  kept_by_event w (Opened number host) quoted links holds = kept_opened P kept w number host holds
  kept_by_event w (Lost number) quoted links holds = holds
  kept_by_event w (Client number message) quoted links holds =
      kept_either P (acts w (dests.Session number)) (client_said w number message) w (λ _. kept_client_said P kept w number message (quoted number message refl) holds) holds
  kept_by_event w (UpOpened number) quoted links holds = kept_up_opened P kept w number holds
  kept_by_event w (UpLost number) quoted links holds = holds
  kept_by_event w (Server number message) quoted links holds =
      kept_either P (acts w (dests.Upstream number)) (server_said w number message) w (λ _. kept_server_said P kept w number message holds) holds
  kept_by_event w (Found name number) quoted links holds = links name number holds
  kept_by_event w (Search host name) quoted links holds =
      kept_either P (is_some (lead_of w.policy host name)) (remembered host name w) w (λ _. kept_remembered P kept host name w holds) holds
  kept_by_event w Sweep quoted links holds = kept.searches [] w holds
  kept_by_event w (Edit policy) quoted links holds = kept.policy policy w holds
  kept_by_event w (Drain dest count) quoted links holds = holds
  kept_by_event w (Limit limits) quoted links holds = kept.limits limits w holds
  kept_by_event w Age quoted links holds = kept_aged P kept w holds
  kept_by_event w (Probe number) quoted links holds = kept.messages.asking number requests.Echo w holds
  kept_by_event w (Seek number cid name) quoted links holds =
      kept_either P (acts w (dests.Session number)) (sought number cid name w) w (λ _. kept_sought P kept number cid name w holds) holds

  -- the passes

  kept_all_unreadable : (subs : List ClientSub) (w : Gateway) → P w → P (fold unreadable_told w subs)
  kept_all_unreadable [] w holds = holds
  kept_all_unreadable (sub ∷ subs) w holds =
      kept_all_unreadable subs (unreadable_told w sub) (kept.messages.telling sub.session (replies.UpdateRefused sub.id sub.dtype ECA_NORDACCESS) by_any w holds)

  kept_reading_ended : (session sid : ℕ) (ends : Bool) (w : Gateway) → P w → P (reading_ended session sid ends w)
  kept_reading_ended session sid false w holds = holds
  kept_reading_ended session sid true w holds = kept_all_unreadable (filter (is_sub_on session sid) w.clients.subs) w holds

  kept_channel_told : (w : Gateway) (notice : ChannelNotice) → P w → P (channel_told w notice)
  kept_channel_told w (Disconnected session sid cid) holds =
      kept.messages.telling session (replies.ServerDisconnect cid) by_any (without_channel session sid w) (kept.channel_removed session sid w holds)
  kept_channel_told w (RightsChanged session sid cid reach rights) holds =
      let told_rights : Gateway = told session (replies.AccessRights cid rights) (with_reach session sid reach rights w) in
      kept_reading_ended session sid (loses_reading w rights (channel_of w session sid)) told_rights
      (kept.messages.telling session (replies.AccessRights cid rights) by_any (with_reach session sid reach rights w) (kept.channel_changed session sid reach rights w holds))

  pub kept_channels : (notices : List ChannelNotice) (w : Gateway) → P w → P (fold channel_told w notices)
  kept_channels [] w holds = holds
  kept_channels (notice ∷ notices) w holds = kept_channels notices (channel_told w notice) (kept_channel_told w notice holds)

  pub kept_channels_told : (w : Gateway) → P w → P (channels_told w)
  kept_channels_told w holds = kept_channels (channel_notices w) w holds

  pub kept_link_told : (w : Gateway) (notice : LinkNotice) → P w → P (link_told w notice)
  kept_link_told w (Cancelled subject server cid sid dtype sub) holds =
      kept.messages.asking server (requests.EventCancel sid sub.id dtype sub.sent) (with_subscription_of subject server cid None w) (kept.subscription_ended subject server cid w holds)
  kept_link_told w (Unread Values cid) holds = kept.cache_left (is_cached_elsewhere cid) w holds
  kept_link_told w (Unread Properties cid) holds = kept.bare cid w holds
  kept_link_told w (Subscribed subject server cid sid dtype want sent) holds =
      let id : ℕ = next_sub_id w server in
      kept.messages.asking server (requests.EventAdd sid id dtype sent want.mask) (with_new_subscription subject server cid want.mask want.count sent w)
      (kept.subscription_made subject server cid want.mask want.count sent w holds)
  kept_link_told w (Dropped server cid Creating) holds = kept.link_removed server cid w holds
  kept_link_told w (Dropped server cid Unusable) holds = kept.link_removed server cid w holds
  kept_link_told w (Dropped server cid (Connected sid dtype native)) holds =
      kept.messages.asking server (requests.ClearChannel sid cid) (without_link server cid w) (kept.link_removed server cid w holds)

  kept_links : (notices : List LinkNotice) (w : Gateway) → P w → P (fold link_told w notices)
  kept_links [] w holds = holds
  kept_links (notice ∷ notices) w holds = kept_links notices (link_told w notice) (kept_link_told w notice holds)

  pub kept_links_told : (w : Gateway) → P w → P (links_told w)
  kept_links_told w holds = kept_links (link_notices w) w holds

  kept_read_told : (w : Gateway) (notice : ReadNotice) → IsAnswer notice → P w → P (read_told w notice)
  kept_read_told w (Refused read code) laid holds =
      kept.messages.telling read.session (replies.ReadNotifyRefused read.ioid read.dtype read.count code) by_any (without_read read w) (kept.read_removed read w holds)
  kept_read_told w (Answered read count payload) laid holds =
      kept.messages.telling read.session (replies.ReadNotify read.ioid read.dtype count payload) (λ event number. laid) (without_read read w) (kept.read_removed read w holds)

  kept_reads : (notices : List ReadNotice) (w : Gateway) → All IsAnswer notices → P w → P (fold read_told w notices)
  kept_reads [] w laid holds = holds
  kept_reads (notice ∷ notices) w laid holds =
      kept_reads notices (read_told w notice) (All-tail IsAnswer notice notices laid) (kept_read_told w notice (All-head IsAnswer notice notices laid) holds)

  pub kept_reads_told : (w : Gateway) → P w → P (reads_told w)
  kept_reads_told w holds = kept_reads (read_notices w) w (reads_laid w) holds

  pub kept_updates_withheld : (w : Gateway) → P w → P (updates_withheld w)
  kept_updates_withheld w holds = kept_owed_to_all P kept (withheld w) w holds

  kept_update_told : (w : Gateway) (notice : UpdateNotice) → IsUpdate notice → P w → P (update_told w notice)
  kept_update_told w notice laid holds =
      let served : Gateway = with_owed_of notice.session notice.id false w in
      kept_either P (takes_updates w notice.session) (told notice.session (replies.Update notice.id notice.dtype notice.count notice.payload) served) w
      (λ _. kept.messages.telling notice.session (replies.Update notice.id notice.dtype notice.count notice.payload) (λ event number. laid) served (kept.sub_changed notice.session notice.id false w holds))
      holds

  kept_updates : (notices : List UpdateNotice) (w : Gateway) → All IsUpdate notices → P w → P (fold update_told w notices)
  kept_updates [] w laid holds = holds
  kept_updates (notice ∷ notices) w laid holds =
      kept_updates notices (update_told w notice) (All-tail IsUpdate notice notices laid) (kept_update_told w notice (All-head IsUpdate notice notices laid) holds)

  pub kept_consequences : (w : Gateway) → P w → P (consequences w)
  kept_consequences w holds =
      let first : Gateway = updates_withheld (channels_told w) in
      let second : Gateway = reads_told (links_told first) in
      kept_updates (update_notices second) second (updates_laid second) (kept_reads_told (links_told first) (kept_links_told first (kept_updates_withheld (channels_told w) (kept_channels_told w holds))))

-- steps and runs

module _ (P : Gateway → Type 0) (kept : IsKept P) where
  -- what an event takes away
  kept_before_said : (w : Gateway) (event : Event) → P w → P (before_said w event)
  kept_before_said w (Opened number host) holds = holds
  kept_before_said w (Lost number) holds = kept.session_removed number w holds
  kept_before_said w (Client number message) holds = holds
  kept_before_said w (UpOpened number) holds = holds
  kept_before_said w (UpLost number) holds = kept.server_removed number w holds
  kept_before_said w (Server number message) holds = holds
  kept_before_said w (Found name number) holds = holds
  kept_before_said w (Search host name) holds = holds
  kept_before_said w Sweep holds = holds
  kept_before_said w (Edit policy) holds = holds
  kept_before_said w (Drain dest count) holds = kept.outbox_changed dest (without_first count) w holds
  kept_before_said w (Limit limits) holds = holds
  kept_before_said w Age holds = holds
  kept_before_said w (Probe number) holds = holds
  kept_before_said w (Seek number cid name) holds = holds

  quoted : (event : Event) (number : ℕ) (message : Message) → event ≡ Client number message → KeepsQuotes P number message
  quoted event number message is = quotes_kept P kept.outbox_changed number message

  pub kept_step_by : (w : Gateway) (event : Event) → ((name : List ℕ) (server : ℕ) → P w → P (found w name server)) → P w → P (step w event)
  unfolding step
  kept_step_by w event links holds =
      kept_consequences P kept.rows (direct_effect w event) (kept_by_event P kept.rows w event (quoted event) links (kept_before_said w event holds))

module _ (P : Gateway → Type 0) (kept : IsKept P) (links : KeepsLinks P) where
  with_found : (w : Gateway) (name : List ℕ) (server : ℕ) → P w → P (found w name server)
  with_found w name server holds = kept_found P kept.rows.messages w name server (λ missing standing. links server name w missing standing holds) holds

  pub kept_direct_effect : (w : Gateway) (event : Event) → P w → P (direct_effect w event)
  kept_direct_effect w event holds = kept_by_event P kept.rows w event (quoted P kept event) (with_found w) (kept_before_said P kept w event holds)

  pub kept_step : (w : Gateway) (event : Event) → P w → P (step w event)
  kept_step w event holds = kept_step_by P kept w event (with_found w) holds

  pub kept_run : (w : Gateway) (events : List Event) → P w → P (run w events)
  unfolding run
  kept_run w [] holds = holds
  kept_run w (event ∷ events) holds = kept_run (step w event) events (kept_step w event holds)
