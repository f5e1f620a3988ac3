-- A new subscription: the server of its variable is told what is wanted now, and then the subscription
-- gets its first update.
use Rattle.std.proofs.Common.{◌≡◌, ℕ, List, [], ◌∷◌, ◌++◌, Bool, true, false, cond, not, ◌&&◌, Option, Some, None, refl, ap, ◌∙◌}
use Rattle.std.specs.Prelude.{bytes_eq, filter, filter_map, map}
use Rattle.std.specs.List.{cons_option, fold}
use Rattle.rows.specs.Rows.{change_first}
use Rattle.ca_message.specs.declared.codes.TheConstants.{ECA_NORDACCESS}
use Rattle.ca_message.specs.declared.to_client.ToClient.TheVariants as replies
use Rattle.channel_table.specs.ClientRows.{ClientRows}
use Rattle.named_rows.specs.declared.channels.Channel.{Channel}
use Rattle.named_rows.specs.declared.subs.ClientSub.{ClientSub}
use Rattle.named_rows.specs.Demand.{own_ask}
use Rattle.fanout.specs.declared.outbox.Out.{Out}
use Rattle.gateway_state.specs.declared.connections.Connection.{Connection}
use Rattle.gateway_state.specs.declared.event.Dest.TheVariants.{Session as ToSession}
use Rattle.gateway_state.specs.declared.notice.UpdateNotice.{UpdateNotice}
use Rattle.gateway_state.specs.Connections.{given, is_to}
use Rattle.gateway_state.specs.Gateway.{Gateway}
use Rattle.gateway_state.specs.Interest.{is_read_through, is_reader, is_subscriber, reader_ask}
use Rattle.gateway_state.specs.Notices.{read_notice, read_notices, reads_told}
use Rattle.gateway_state.specs.Rights.{channel_of, may_read, rights_of}
use Rattle.gateway_state.specs.Settled.{HasLinksApart, IsSettled}
use Rattle.gateway_state.specs.Step.{consequences}
use Rattle.gateway_state.specs.Subscribing.{told_if_unreadable, unreadable_told, with_sub}
use Rattle.gateway_state.specs.Telling.{outgoing, sent}
use Rattle.gateway_state.specs.Updates.{is_unreadable, is_withheld, update_notice, update_notices, update_told, updates_told, withheld}
use Rattle.gateway_state.proofs.SettledSteps.{reads_stay}
use Rattle.touched_rows.specs.Touched.{interest_told, one_update_told, update_told_if}
use Rattle.touched_rows.proofs.Connections.{HasNoMoreRoom, no_more_room_given}
use Rattle.touched_rows.proofs.LessGiven.{GivesNoMore, gives_no_more}
use Rattle.touched_rows.proofs.OneLink.{IsBesideOthers, interest_alone, interest_told_clients, is_name, less_interest_told}
use Rattle.touched_rows.proofs.Passes.{each_update_stays, from_links, no_reads}
use Rattle.touched_rows.proofs.ReadersOf.{other_name, passing_pushed}
use Rattle.touched_rows.proofs.Tellings.{less_beside, less_connections}
use Rattle.touched_rows.proofs.TouchedAlone.{one_planned}

one_told : (x : Gateway) (notice : Option UpdateNotice) → fold update_told x (cons_option notice []) ≡ update_told_if notice x
one_told x None = refl
one_told x (Some notice) = refl

-- with outboxes that take no more
module _ (w : Gateway) (settled : IsSettled w) (links_apart : HasLinksApart w) (sub : ClientSub) (owed : sub.owed ≡ true) (c : Channel)
    (on : channel_of w sub.session sub.sid ≡ Some c) (connections : List Connection) (room : HasNoMoreRoom w.connections connections) where
  abbrev x : Gateway
  x = record (with_sub sub w) { connections = connections }

  not_withheld : withheld x ≡ []
  not_withheld = passing_pushed (is_withheld w) w.clients.subs sub (ap (λ (t : Bool). not t && is_unreadable w (channel_of w sub.session sub.sid)) owed) ∙ settled.held_back

  -- it reads no other variable
  elsewhere : (other : List ℕ) → bytes_eq other c.real ≡ false → is_subscriber w other sub ≡ false
  elsewhere other differ = ap (is_read_through w other) on ∙ ap (λ (t : Bool). t && may_read (rights_of w c)) (other_name other c.real differ)

  beside : IsBesideOthers w x (is_name c.real)
  beside = record {
    links = refl;
    minors = λ server. refl;
    asks = λ other differ.
        ap (λ (subs : List ClientSub). map own_ask subs ++ map reader_ask (filter (is_reader w other) w.clients.channels))
        (passing_pushed (is_subscriber w other) w.clients.subs sub (elsewhere other differ));
    wanted = λ other differ. refl;
  }

  abbrev y : Gateway
  y = interest_told c.real x

  less : GivesNoMore w y
  less =
      gives_no_more w x y
      (gives_no_more w (with_sub sub w) x (less_beside w (w.clients.subs ++ sub ∷ []) w.clients.reads w.upstream.counters) (less_connections (with_sub sub w) connections room))
      (less_interest_told x c.real)

  clients_same : y.clients ≡ x.clients
  clients_same = interest_told_clients x c.real

  reads_quiet : read_notices y ≡ []
  reads_quiet = ap (λ (rows : ClientRows). filter_map (read_notice y) rows.reads) clients_same ∙ no_reads w y less w.clients.reads settled.reads

  one_due : update_notices y ≡ cons_option (update_notice y sub) []
  one_due =
      ap (λ (rows : ClientRows). filter_map (update_notice y) rows.subs) clients_same
      ∙ one_planned (update_notice y) w.clients.subs sub (each_update_stays w y less w.clients.subs settled.updates)

  told_after_added : consequences x ≡ one_update_told sub (interest_told c.real x)
  told_after_added =
      from_links x settled.channels not_withheld
      ∙ ap (λ (v : Gateway). updates_told (reads_told v)) (interest_alone w x c.real beside settled links_apart (λ wanted. wanted))
      ∙ ap updates_told (reads_stay y reads_quiet)
      ∙ ap (λ (notices : List UpdateNotice). fold update_told y notices) one_due
      ∙ one_told y (update_notice y sub)

-- and where it was told that its channel may not be read
pub told_after_subscribing : (w : Gateway) → IsSettled w → HasLinksApart w → (sub : ClientSub) → sub.owed ≡ true → (c : Channel) → channel_of w sub.session sub.sid ≡ Some c
    → consequences (told_if_unreadable sub (with_sub sub w)) ≡ one_update_told sub (interest_told c.real (told_if_unreadable sub (with_sub sub w)))
unfolding sent
told_after_subscribing w settled links_apart sub owed c on = by (w.limits.tells_unreadable && is_unreadable w (channel_of w sub.session sub.sid))
  where
    added : Gateway
    added = with_sub sub w

    said : Out
    said = outgoing (replies.UpdateRefused sub.id sub.dtype ECA_NORDACCESS)

    by : (tells : Bool) → consequences (cond tells (unreadable_told added sub) added) ≡ one_update_told sub (interest_told c.real (cond tells (unreadable_told added sub) added))
    by true =
        told_after_added w settled links_apart sub owed c on (change_first (is_to (ToSession sub.session)) (given w.limits.messages said) w.connections)
        (no_more_room_given w.limits.messages (ToSession sub.session) said w.connections)
    by false = told_after_added w settled links_apart sub owed c on w.connections (λ limits number e. e)
