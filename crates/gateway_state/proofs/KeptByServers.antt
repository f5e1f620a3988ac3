-- What servers say and do keeps what each change of rows keeps.
use Rattle.std.proofs.Common.{true, ◌≡◌, ◌∙◌, ℕ, List, [], ◌∷◌, ◌++◌, length, Bool, false, eqb, leb, ltb, not, ◌||◌, ◌&&◌, Option, Some, None, Ok, Err, Result}
use Rattle.std.specs.Prelude.{filter}
use Rattle.std.specs.List.{find, fold, list_any}
use Rattle.ca_header.specs.declared.header.Message.{Message}
use Rattle.ca_message.specs.declared.codes.TheConstants.{ECA_NORMAL, ECA_GETFAIL}
use Rattle.ca_message.specs.declared.reply.ReplyFault.{ReplyFault}
use Rattle.ca_message.specs.declared.reply.ServerReply.{ServerReply}
use Rattle.ca_message.specs.declared.reply.ServerReply.TheVariants as says
use Rattle.ca_message.specs.declared.to_client.ToClient.TheVariants as replies
use Rattle.ca_message.specs.declared.to_server.ToServer.TheVariants as requests
use Rattle.ca_message.specs.ServerReply.{reply_of}
use Rattle.named_rows.specs.declared.reads.WaitingRead.{WaitingRead}
use Rattle.named_rows.specs.declared.subs.ClientSub.{ClientSub}
use Rattle.link_table.specs.declared.links.LinkRow.{LinkRow}
use Rattle.link_table.specs.declared.links.LinkState.{LinkState}
use Rattle.link_table.specs.declared.links.LinkState.TheVariants.{Creating, Connected, Unusable}
use Rattle.link_table.specs.declared.links.Subject.{Subject}
use Rattle.link_table.specs.declared.links.Subscription.{Subscription}
use Rattle.link_table.specs.Links.{has_subscription, is_link, sub_at}
use Rattle.value_cache.specs.Held.{Held}
use Rattle.gateway_state.specs.declared.event.Dest.TheVariants.{Upstream}
use Rattle.gateway_state.specs.Answer.{native_in}
use Rattle.gateway_state.specs.Asked.{acts, must_end, is_open}
use Rattle.gateway_state.specs.Gateway.{Gateway}
use Rattle.gateway_state.specs.Servers.{answered_creating, concerned_owed, concerns, created_for, failed_for, fails_without, found, gone_for, held_with, is_heard, is_usable, linked, next_cid, read_failed, reads_failed, replied, rights_given, server_said, subject_of, updated_by, updated_link, updated_under, waits_for, with_held, with_link_state, without_link}
use Rattle.gateway_state.specs.Sessions.{introduced, up_opened, with_server}
use Rattle.gateway_state.specs.Notices.{without_read}
use Rattle.link_table.specs.declared.servers.Server.{Server}
use Rattle.link_table.specs.declared.writes.WaitingWrite.{WaitingWrite}
use Rattle.link_table.specs.Writes.{is_write}
use Rattle.link_table.specs.Servers.{is_server}
use Rattle.std.proofs.lemmas.Bool.{and_parts, eq-eqb, not-true, or_left, or_right}
use Rattle.std.proofs.lemmas.List.Folds.{list_any-append}
use Rattle.gateway_state.specs.Telling.{asked}
use Rattle.gateway_state.specs.Updates.{concerned}
use Rattle.gateway_state.specs.Variables.{is_creating, is_linked, is_missing, is_wanted}
use Rattle.gateway_state.specs.Writing.{without_write, write_ended_for}
use Rattle.gateway_state.proofs.Kept.{KeepsMessages, KeepsRows, by_any, kept_either, kept_owed_to_all, with_link, with_servers}

-- a server that was added has a row
server_there : (other number : ℕ) (rows : List Server) → Upstream number ≡ Upstream other → list_any (is_server other) (rows ++ record { number = number; minor = 0 } ∷ []) ≡ true
server_there other number rows is =
    let same : number ≡ other = cc in
    list_any-append (is_server other) rows (record { number = number; minor = 0 } ∷ [])
    ∙ or_right (list_any (is_server other) rows) (eqb number other || false) (or_left (eqb number other) false (eq-eqb number other same))

module _ (P : Gateway → Type 0) (kept : KeepsRows P) where
  -- connections that come

  kept_introduced : (number : ℕ) (w : Gateway) → P w → P (introduced number w)
  kept_introduced number w holds =
      let first : Gateway = asked number requests.Version w in
      let second : Gateway = asked number (requests.ClientName w.config.client_name) first in
      kept.messages.asking number (requests.HostName w.config.host_name) second
      (kept.messages.asking number (requests.ClientName w.config.client_name) first (kept.messages.asking number requests.Version w holds))

  pub kept_up_opened : (w : Gateway) (number : ℕ) → P w → P (up_opened w number)
  kept_up_opened w number holds =
      let new : Server = record { number = number; minor = 0 } in
      let first : Gateway = with_servers (w.upstream.servers ++ new ∷ []) w in
      let second = kept.connection_added (Upstream number) first (λ other is. server_there other number w.upstream.servers is) (kept.server_added new w holds) in
      kept_either P (is_open w (Upstream number) || leb w.limits.servers (length w.upstream.servers)) w (introduced number (with_server w number))
      (λ _. holds) (kept_introduced number (with_server w number) second)

-- a new link, where it keeps it
module _ (P : Gateway → Type 0) (messages : KeepsMessages P) where
  kept_linked : (w : Gateway) (server : ℕ) (name : List ℕ) → P (with_link server name w) → P (linked w server name)
  kept_linked w server name holds = messages.asking server (requests.CreateChannel (next_cid w) name) (with_link server name w) holds

  pub kept_found : (w : Gateway) (name : List ℕ) (server : ℕ) → (is_linked w name ≡ false → is_open w (Upstream server) ≡ true → P (with_link server name w))
      → P w → P (found w name server)
  kept_found w name server with_it holds =
      kept_either P (is_missing w name && acts w (Upstream server) && ltb (length w.upstream.links) w.limits.links) (linked w server name) w
      (λ e.
      let tests = and_parts (is_missing w name && acts w (Upstream server)) (ltb (length w.upstream.links) w.limits.links) e in
      let parts = and_parts (is_missing w name) (acts w (Upstream server)) tests.0 in
      let standing = and_parts (is_open w (Upstream server)) (not (must_end w (Upstream server))) parts.1 in
      kept_linked w server name (with_it (not-true (is_linked w name) (and_parts (is_wanted w name) (not (is_linked w name)) parts.0).1) standing.0))
      holds

module _ (P : Gateway → Type 0) (kept : KeepsRows P) where
  -- changes of one link

  kept_created_for : (server cid sid dtype count : ℕ) (link : Option LinkRow) (w : Gateway) → P w → P (created_for server cid sid dtype count link w)
  kept_created_for server cid sid dtype count None w holds = kept.messages.asking server (requests.ClearChannel sid cid) w holds
  kept_created_for server cid sid dtype count (Some link) w holds =
      let connected : Gateway = with_link_state server cid (Connected sid dtype count) link.rights w in
      let unusable : Gateway = with_link_state server cid Unusable link.rights w in
      kept_either P (is_creating link.state) (answered_creating server cid sid dtype count link w) w
      (λ _. kept_either P (is_usable dtype count) connected (asked server (requests.ClearChannel sid cid) unusable)
      (λ _. kept.link_changed server cid (Connected sid dtype count) link.rights w holds)
      (kept.messages.asking server (requests.ClearChannel sid cid) unusable (kept.link_changed server cid Unusable link.rights w holds)))
      holds

  kept_rights_given : (server cid rights : ℕ) (link : Option LinkRow) (w : Gateway) → P w → P (rights_given server cid rights link w)
  kept_rights_given server cid rights None w holds = holds
  kept_rights_given server cid rights (Some link) w holds = kept.link_changed server cid link.state rights w holds

  kept_failed_for : (server cid : ℕ) (link : Option LinkRow) (w : Gateway) → P w → P (failed_for server cid link w)
  kept_failed_for server cid None w holds = holds
  kept_failed_for server cid (Some link) w holds =
      kept_either P (is_creating link.state) (without_link server cid w) w (λ _. kept.link_removed server cid w holds) holds

  kept_gone_for : (server cid : ℕ) (link : Option LinkRow) (w : Gateway) → P w → P (gone_for server cid link w)
  kept_gone_for server cid None w holds = holds
  kept_gone_for server cid (Some link) w holds = kept.link_removed server cid w holds

  -- updates

  kept_read_failed : (w : Gateway) (read : WaitingRead) → P w → P (read_failed w read)
  kept_read_failed w read holds =
      kept.messages.telling read.session (replies.ReadNotifyRefused read.ioid read.dtype read.count ECA_GETFAIL) by_any (without_read read w) (kept.read_removed read w holds)

  pub kept_all_failed : (reads : List WaitingRead) (w : Gateway) → P w → P (fold read_failed w reads)
  kept_all_failed [] w holds = holds
  kept_all_failed (read ∷ reads) w holds = kept_all_failed reads (read_failed w read) (kept_read_failed w read holds)

  kept_updated_link : (subject : Subject) (link : LinkRow) (state : LinkState) (sub : Option Subscription) (dtype count : ℕ) (payload : List ℕ) (w : Gateway) → P w → P (updated_link subject link state sub dtype count payload w)
  kept_updated_link subject link (Connected sid native native_count) (Some sub) dtype count payload w holds =
      let change : Held → Held = held_with subject dtype count payload sub.count in
      let passes : ClientSub → Bool = concerns subject w link.cid dtype count payload in
      let owed : Gateway = concerned_owed link.name passes w in
      kept_either P (is_heard subject native sub.count dtype count payload) (with_held link.server link.cid change owed) w
      (λ _. kept.cached link.server link.cid change owed (kept_owed_to_all P kept (concerned w link.name passes) w holds)) holds
  kept_updated_link subject link (Connected sid native native_count) None dtype count payload w holds = holds
  kept_updated_link subject link Creating sub dtype count payload w holds = holds
  kept_updated_link subject link Unusable sub dtype count payload w holds = holds

  kept_updated_under : (subject : Subject) (status dtype count : ℕ) (payload : List ℕ) (link : LinkRow) (w : Gateway) → P w → P (updated_under subject status dtype count payload link w)
  kept_updated_under subject status dtype count payload link w holds =
      let sub : Option Subscription = sub_at subject link.subscriptions in
      let fails : WaitingRead → Bool = fails_without subject (native_in link.state) in
      kept_either P (eqb status ECA_NORMAL) (updated_link subject link link.state sub dtype count payload w) (reads_failed fails w link.name)
      (λ _. kept_updated_link subject link link.state sub dtype count payload w holds)
      (kept_all_failed (filter (λ read. waits_for w link.name read && fails read) w.clients.reads) w holds)

  kept_updated_by : (id status dtype count : ℕ) (payload : List ℕ) (link : Option LinkRow) (w : Gateway) → P w → P (updated_by id status dtype count payload link w)
  kept_updated_by id status dtype count payload None w holds = holds
  kept_updated_by id status dtype count payload (Some link) w holds = kept_updated_under (subject_of id link) status dtype count payload link w holds

  -- writes

  kept_write_ended_for : (server id status : ℕ) (found : Option WaitingWrite) (w : Gateway) → P w → P (write_ended_for server id status found w)
  kept_write_ended_for server id status None w holds = holds
  kept_write_ended_for server id status (Some write) w holds =
      kept.messages.telling write.session (replies.WriteNotify write.ioid write.dtype write.count status) by_any (without_write server id w) (kept.write_removed server id w holds)

  -- what a server says

  kept_replied : (w : Gateway) (server : ℕ) (reply : Result ServerReply ReplyFault) → P w → P (replied w server reply)
  kept_replied w server (Ok (says.Version minor)) holds = kept.server_changed server minor w holds
  kept_replied w server (Ok (says.EventAdd id status dtype count value)) holds =
      kept_updated_by id status dtype count value (find (has_subscription server id) w.upstream.links) w holds
  kept_replied w server (Ok (says.CreateChannel cid sid dtype count)) holds =
      kept_created_for server cid sid dtype count (find (is_link server cid) w.upstream.links) w holds
  kept_replied w server (Ok (says.WriteNotify ioid status)) holds = kept_write_ended_for server ioid status (find (is_write server ioid) w.upstream.writes) w holds
  kept_replied w server (Ok (says.AccessRights cid rights)) holds = kept_rights_given server cid rights (find (is_link server cid) w.upstream.links) w holds
  kept_replied w server (Ok (says.CreateChannelFail cid)) holds = kept_failed_for server cid (find (is_link server cid) w.upstream.links) w holds
  kept_replied w server (Ok (says.ServerDisconnect cid)) holds = kept_gone_for server cid (find (is_link server cid) w.upstream.links) w holds
  kept_replied w server (Err fault) holds = holds

  pub kept_server_said : (w : Gateway) (server : ℕ) (message : Message) → P w → P (server_said w server message)
  kept_server_said w server message holds = kept_replied w server (reply_of message.head message.payload) holds
