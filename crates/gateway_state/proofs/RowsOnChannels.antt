-- Every waiting read and every subscription of a client is on a channel that stands.
use Rattle.std.proofs.Common.{ℕ, List, [], ◌∷◌, not, refl, ap, ◌∙◌}
use Rattle.std.proofs.lemmas.List.Folds.{list_all-append}
use Rattle.named_rows.specs.declared.reads.WaitingRead.{WaitingRead}
use Rattle.named_rows.specs.declared.subs.ClientSub.{ClientSub}
use Rattle.named_rows.specs.Channels.{is_not_channel, is_not_channel_of}
use Rattle.named_rows.specs.Reads.{is_not_read_of, is_not_read_on, same_read}
use Rattle.named_rows.specs.Subs.{is_not_sub, is_not_sub_of, is_not_sub_on, is_sub, with_owed}
use Rattle.gateway_state.specs.declared.config.Config.{Config}
use Rattle.rule_desk.specs.declared.policy.Policy.{Policy}
use Rattle.gateway_state.specs.declared.event.Event.{Event}
use Rattle.gateway_state.specs.Gateway.{Gateway, initial}
use Rattle.gateway_state.specs.Settled.{HasReadsOnChannels, HasSubsOnChannels, is_on_channel, is_sub_on_channel}
use Rattle.gateway_state.specs.Step.{run}
use Rattle.gateway_state.proofs.Kept.{IsKept, KeepsLinks, messages_kept, new_channel}
use Rattle.gateway_state.proofs.KeptByRuns.{kept_run}
use Rattle.gateway_state.proofs.OnChannels.{on_changed, on_left, on_more, same_channel, same_session}
use Rattle.gateway_state.proofs.RowTests.{all_changed, all_filtered, all_removed}

abbrev read_session : WaitingRead → ℕ
read_session read = read.session

abbrev read_sid : WaitingRead → ℕ
read_sid read = read.sid

abbrev sub_session : ClientSub → ℕ
sub_session sub = sub.session

abbrev sub_sid : ClientSub → ℕ
sub_sid sub = sub.sid

pub record HasRowsOnChannels (w : Gateway) : Type 0 where
  pub reads : HasReadsOnChannels w
  pub subs : HasSubsOnChannels w

rows_on_channels_kept : IsKept HasRowsOnChannels
rows_on_channels_kept = record {
  rows = record {
    messages = messages_kept HasRowsOnChannels (λ dest change w on. record { reads = on.reads; subs = on.subs });
    connection_added = λ dest w rowed on. record { reads = on.reads; subs = on.subs };
    session_added = λ row w there on. record { reads = on.reads; subs = on.subs };
    session_changed = λ number change w same on. record { reads = on.reads; subs = on.subs };
    server_added = λ row w on. record { reads = on.reads; subs = on.subs };
    server_changed = λ number minor w on. record { reads = on.reads; subs = on.subs };
    cache_left = λ stays w on. record { reads = on.reads; subs = on.subs };
    cached = λ server cid change w on. record { reads = on.reads; subs = on.subs };
    bare = λ cid w on. record { reads = on.reads; subs = on.subs };
    searches = λ rows w on. record { reads = on.reads; subs = on.subs };
    policy = λ policy w on. record { reads = on.reads; subs = on.subs };
    limits = λ limits w on. record { reads = on.reads; subs = on.subs };
    last_age = λ last w on. record { reads = on.reads; subs = on.subs };
    channel_added = λ session cid name real rights w fixed on. record {
      reads = on_more read_session read_sid w.clients.channels (new_channel session cid name real rights w) w.clients.reads on.reads;
      subs = on_more sub_session sub_sid w.clients.channels (new_channel session cid name real rights w) w.clients.subs on.subs;
    };
    channel_changed = λ session sid reach rights w on. record {
      reads = on_changed read_session read_sid w.clients.channels session sid reach rights w.clients.reads on.reads;
      subs = on_changed sub_session sub_sid w.clients.channels session sid reach rights w.clients.subs on.subs;
    };
    channel_removed = λ session sid w on. record {
      reads = on_left read_session read_sid w.clients.channels (is_not_channel session sid) (is_not_read_on session sid) w.clients.reads
          (λ read c kept is. ap not (same_channel read_session read_sid read c session sid is) ∙ kept) on.reads;
      subs = on_left sub_session sub_sid w.clients.channels (is_not_channel session sid) (is_not_sub_on session sid) w.clients.subs
          (λ sub c kept is. ap not (same_channel sub_session sub_sid sub c session sid is) ∙ kept) on.subs;
    };
    sub_added = λ sub w free there on. record {
      reads = on.reads;
      subs = list_all-append (is_sub_on_channel w) w.clients.subs (sub ∷ []) ∙ rw (on.subs, there) refl;
    };
    sub_changed = λ session id owed w on. record {
      reads = on.reads;
      subs = all_changed (is_sub_on_channel w) (is_sub session id) (with_owed owed) w.clients.subs (λ sub. refl) ∙ on.subs;
    };
    sub_removed = λ session id w on. record { reads = on.reads; subs = all_filtered (is_sub_on_channel w) (is_not_sub session id) w.clients.subs on.subs };
    read_added = λ read w there on. record {
      reads = list_all-append (is_on_channel w) w.clients.reads (read ∷ []) ∙ rw (on.reads, there) refl;
      subs = on.subs;
    };
    read_removed = λ read w on. record { reads = all_removed (is_on_channel w) (same_read read) w.clients.reads on.reads; subs = on.subs };
    write_added = λ write w there next on. record { reads = on.reads; subs = on.subs };
    write_removed = λ server id w on. record { reads = on.reads; subs = on.subs };
    link_changed = λ server cid state rights w on. record { reads = on.reads; subs = on.subs };
    subscription_made = λ subject server cid mask count sent w on. record { reads = on.reads; subs = on.subs };
    subscription_ended = λ subject server cid w on. record { reads = on.reads; subs = on.subs };
    link_removed = λ server cid w on. record { reads = on.reads; subs = on.subs };
  };
  outbox_changed = λ dest change w on. record { reads = on.reads; subs = on.subs };
  session_removed = λ session w on. record {
    reads = on_left read_session read_sid w.clients.channels (is_not_channel_of session) (is_not_read_of session) w.clients.reads
        (λ read c kept is. ap not (same_session read_session read_sid read c session is) ∙ kept) on.reads;
    subs = on_left sub_session sub_sid w.clients.channels (is_not_channel_of session) (is_not_sub_of session) w.clients.subs
        (λ sub c kept is. ap not (same_session sub_session sub_sid sub c session is) ∙ kept) on.subs;
  };
  server_removed = λ server w on. record { reads = on.reads; subs = on.subs };
}

rows_on_channels_with_links : KeepsLinks HasRowsOnChannels
rows_on_channels_with_links = λ server name w missing standing on. record { reads = on.reads; subs = on.subs }

pub run_on_channels : (config : Config) (policy : Policy) (events : List Event) → HasRowsOnChannels (run (initial config policy) events)
run_on_channels config policy events =
    kept_run HasRowsOnChannels rows_on_channels_kept rows_on_channels_with_links (initial config policy) events (record { reads = refl; subs = refl })
