-- Numbers tell rows apart in every state of a run.
use Rattle.std.proofs.Common.{◌≡◌, ℕ, ◌+◌, ltb, map, List, [], ◌∷◌, ◌++◌, Bool, false, eqb, ◌||◌, ◌&&◌, Some, None, refl, ap, ◌∙◌, arith}
use Rattle.std.specs.Prelude.{filter, flat_map}
use Rattle.std.specs.List.{list_any}
use Rattle.std.proofs.lemmas.Bool.{lt-ltb, or_parts}
use Rattle.std.proofs.lemmas.List.Folds.{list_all-append}
use Rattle.rows.specs.Rows.{change_first}
use Rattle.named_rows.specs.declared.channels.Channel.{Channel}
use Rattle.named_rows.specs.Channels.{is_channel, is_not_channel, is_not_channel_of, with_reach_and_rights}
use Rattle.channel_table.specs.ClientRows.{has_channel}
use Rattle.link_table.specs.declared.links.LinkRow.{LinkRow}
use Rattle.link_table.specs.declared.links.LinkState.{LinkState}
use Rattle.link_table.specs.declared.links.Subject.{Subject}
use Rattle.link_table.specs.declared.links.Subscription.{Subscription}
use Rattle.link_table.specs.declared.writes.WaitingWrite.{WaitingWrite}
use Rattle.link_table.specs.Counters.{begins_again}
use Rattle.link_table.specs.Links.{has_subscription, is_link, is_not_link, is_not_of, is_of, new_link, with_state, with_subscription}
use Rattle.link_table.specs.Writes.{is_not_write, is_not_write_of, is_not_write_on, is_not_write_to, is_write, is_write_to}
use Rattle.link_table.specs.Numbers.{cid_of, has_cid_below, has_id_below, has_write_id_below, id_of, is_of_cid, sub_ids}
use Rattle.gateway_state.specs.declared.config.Config.{Config}
use Rattle.rule_desk.specs.declared.policy.Policy.{Policy}
use Rattle.gateway_state.specs.declared.event.Event.{Event}
use Rattle.gateway_state.specs.Clients.{next_sid, sid_of, sids_of}
use Rattle.gateway_state.specs.Gateway.{Gateway, initial}
use Rattle.gateway_state.specs.Notices.{next_sub_id}
use Rattle.gateway_state.specs.Servers.{next_cid}
use Rattle.gateway_state.specs.Settled.{AreCidsApart, AreNumbersApart, AreSidsApart, AreSubIdsApart, AreWriteIdsApart, HasCidsApart, HasSidsApart, HasSubIdsApart, HasWriteIdsApart, has_sid_below, has_two_ids, is_same_channel, is_same_link, is_same_write, is_sharing, shares_id}
use Rattle.gateway_state.specs.Step.{run}
use Rattle.gateway_state.specs.Writing.{next_write_id}
use Rattle.gateway_state.proofs.Kept.{IsKept, KeepsLinks, messages_kept, new_channel}
use Rattle.gateway_state.proofs.KeptByRuns.{kept_run}
use Rattle.gateway_state.proofs.NewNumbers.{new_number, new_sid, new_sub_id, write_is_new}
use Rattle.gateway_state.proofs.NextNumbers.{next_is_counter}
use Rattle.gateway_state.proofs.RowTests.{all_changed, all_filtered, none_weaker}
use Rattle.gateway_state.proofs.SubIdsKept.{all_below_more, ids_of_put, none_meets_none, none_shares_new, own_put, shares_in_state, unlike_put}
use Rattle.gateway_state.proofs.UnlikeRows.{below_pushed, both_swapped, eqb_swapped, unlike_changed, unlike_filtered, unlike_pushed}

-- ROWS THAT GO

fewer_sids : (again : Bool) (next : ℕ) (test : Channel → Bool) (channels : List Channel) → AreSidsApart again next channels → AreSidsApart again next (filter test channels)
fewer_sids again next test channels order = record {
  apart = unlike_filtered is_same_channel test channels order.apart;
  below = λ before. all_filtered (has_sid_below next) test channels (order.below before);
}

fewer_cids : (again : Bool) (next : ℕ) (test : LinkRow → Bool) (links : List LinkRow) → AreCidsApart again next links → AreCidsApart again next (filter test links)
fewer_cids again next test links order = record {
  apart = unlike_filtered is_same_link test links order.apart;
  below = λ before. all_filtered (has_cid_below next) test links (order.below before);
}

fewer_sub_ids : (again : Bool) (next : ℕ) (test : LinkRow → Bool) (links : List LinkRow) → AreSubIdsApart again next links → AreSubIdsApart again next (filter test links)
fewer_sub_ids again next test links order = record {
  own = all_filtered has_two_ids test links order.own;
  apart = unlike_filtered shares_id test links order.apart;
  below = λ before. all_filtered (has_id_below next) test links (order.below before);
}

fewer_write_ids : (again : Bool) (next : ℕ) (test : WaitingWrite → Bool) (writes : List WaitingWrite) → AreWriteIdsApart again next writes → AreWriteIdsApart again next (filter test writes)
fewer_write_ids again next test writes order = record {
  apart = unlike_filtered is_same_write test writes order.apart;
  below = λ before. all_filtered (has_write_id_below next) test writes (order.below before);
}

-- ROWS THAT CHANGE

sids_changed : (again : Bool) (next session sid : ℕ) (change : Channel → Channel) (channels : List Channel) → ((c : Channel) → (change c).session ≡ c.session) → ((c : Channel) → (change c).sid ≡ c.sid)
    → AreSidsApart again next channels → AreSidsApart again next (change_first (is_channel session sid) change channels)
sids_changed again next session sid change channels same_session same_sid order = record {
  apart =
      unlike_changed is_same_channel (is_channel session sid) change channels
      (λ a b. let first = same_session a in let second = same_sid a in λ i. eqb b.session (first i) && eqb b.sid (second i))
      (λ a b. let first = same_session b in let second = same_sid b in λ i. eqb (first i) a.session && eqb (second i) a.sid) order.apart;
  below = λ before. all_changed (has_sid_below next) (is_channel session sid) change channels (λ c. let second = same_sid c in λ i. ltb (second i) next) ∙ order.below before;
}

cids_changed : (again : Bool) (next server cid : ℕ) (change : LinkRow → LinkRow) (links : List LinkRow) → ((link : LinkRow) → (change link).cid ≡ link.cid)
    → AreCidsApart again next links → AreCidsApart again next (change_first (is_link server cid) change links)
cids_changed again next server cid change links same order = record {
  apart =
      unlike_changed is_same_link (is_link server cid) change links (λ a b. let of = same a in λ i. eqb b.cid (of i)) (λ a b. let of = same b in λ i. eqb (of i) a.cid) order.apart;
  below = λ before. all_changed (has_cid_below next) (is_link server cid) change links (λ link. let of = same link in λ i. ltb (of i) next) ∙ order.below before;
}

sub_ids_in_state : (again : Bool) (next server cid : ℕ) (state : LinkState) (rights : ℕ) (links : List LinkRow) → AreSubIdsApart again next links
    → AreSubIdsApart again next (change_first (is_link server cid) (with_state state rights) links)
sub_ids_in_state again next server cid state rights links order = record {
  own = all_changed has_two_ids (is_link server cid) (with_state state rights) links (λ link. refl) ∙ order.own;
  apart = unlike_changed shares_id (is_link server cid) (with_state state rights) links (λ a b. refl) (λ a b. shares_in_state state rights a b) order.apart;
  below = λ before. all_changed (has_id_below next) (is_link server cid) (with_state state rights) links (λ link. refl) ∙ order.below before;
}

sub_ids_without : (again : Bool) (next : ℕ) (subject : Subject) (server cid : ℕ) (links : List LinkRow) → AreSubIdsApart again next links
    → AreSubIdsApart again next (change_first (is_link server cid) (with_subscription subject None) links)
sub_ids_without again next subject server cid links order = record {
  own = own_put subject server cid None links (none_meets_none server links) order.own;
  apart = unlike_put subject server cid None links (none_meets_none server links) order.apart;
  below = λ before. ids_of_put subject links (is_link server cid) next None refl (order.below before);
}

-- ROWS THAT COME, under the next numbers

sids_with : (w : Gateway) (new : Channel) → new.sid ≡ next_sid w new.session → HasSidsApart w
    → AreSidsApart (w.upstream.counters.again.sid || begins_again w.limits.reuses_numbers w.upstream.counters.sid) (next_sid w new.session + 1) (w.clients.channels ++ new ∷ [])
sids_with w new numbered order = record {
  apart =
      unlike_pushed is_same_channel w.clients.channels new
      (none_weaker (is_channel new.session (next_sid w new.session)) (λ (c : Channel). is_same_channel c new) w.clients.channels
      (λ c other. (λ i. eqb new.session c.session && eqb (numbered i) c.sid) ∙ both_swapped new.session c.session (next_sid w new.session) c.sid ∙ other)
      (new_sid w new.session order)) order.apart;
  below = λ none.
      let is = next_is_counter w.limits.reuses_numbers w.config.first (λ (sid : ℕ). has_channel new.session sid w.clients) w.upstream.counters.again.sid (sids_of new.session w) w.upstream.counters.sid none in
      let before = or_parts w.upstream.counters.again.sid (begins_again w.limits.reuses_numbers w.upstream.counters.sid) none in
      below_pushed sid_of w.upstream.counters.sid (next_sid w new.session + 1) w.clients.channels new (omega (arith, is)) (omega (arith, numbered)) (order.below before.0);
}

cids_with : (w : Gateway) (server : ℕ) (name : List ℕ) → HasCidsApart w
    → AreCidsApart (w.upstream.counters.again.cid || begins_again w.limits.reuses_numbers w.upstream.counters.cid) (next_cid w + 1) (w.upstream.links ++ new_link server (next_cid w) name ∷ [])
cids_with w server name order = record {
  apart =
      unlike_pushed is_same_link w.upstream.links (new_link server (next_cid w) name)
      (none_weaker (is_of_cid (next_cid w)) (λ (link : LinkRow). is_same_link link (new_link server (next_cid w) name)) w.upstream.links
      (λ link other. eqb_swapped (next_cid w) link.cid ∙ other) (new_number w order)) order.apart;
  below = λ none.
      let is = next_is_counter w.limits.reuses_numbers w.config.first (λ (cid : ℕ). list_any (is_of_cid cid) w.upstream.links) w.upstream.counters.again.cid (map cid_of w.upstream.links) w.upstream.counters.cid none in
      let before = or_parts w.upstream.counters.again.cid (begins_again w.limits.reuses_numbers w.upstream.counters.cid) none in
      below_pushed cid_of w.upstream.counters.cid (next_cid w + 1) w.upstream.links (new_link server (next_cid w) name) (omega (arith, is)) (omega arith) (order.below before.0);
}

sub_ids_with_link : (again : Bool) (next server cid : ℕ) (name : List ℕ) (links : List LinkRow) → AreSubIdsApart again next links → AreSubIdsApart again next (links ++ new_link server cid name ∷ [])
sub_ids_with_link again next server cid name links order = record {
  own = list_all-append has_two_ids links (new_link server cid name ∷ []) ∙ rw order.own refl;
  apart = unlike_pushed shares_id links (new_link server cid name) (none_shares_new server cid name links) order.apart;
  below = λ before. list_all-append (has_id_below next) links (new_link server cid name ∷ []) ∙ rw (order.below before) refl;
}

sub_ids_with : (w : Gateway) (subject : Subject) (server cid : ℕ) (new : Subscription) → new.id ≡ next_sub_id w server → HasSubIdsApart w
    → AreSubIdsApart (w.upstream.counters.again.subscription || begins_again w.limits.reuses_numbers w.upstream.counters.subscription) (next_sub_id w server + 1)
    (change_first (is_link server cid) (with_subscription subject (Some new)) w.upstream.links)
sub_ids_with w subject server cid new numbered order = record {
  own = own_put subject server cid (Some new) w.upstream.links free order.own;
  apart = unlike_put subject server cid (Some new) w.upstream.links free order.apart;
  below = λ none.
      let is = next_is_counter w.limits.reuses_numbers w.config.first (λ (id : ℕ). list_any (has_subscription server id) w.upstream.links) w.upstream.counters.again.subscription
      (flat_map sub_ids (filter (is_of server) w.upstream.links)) w.upstream.counters.subscription none in
      let before = or_parts w.upstream.counters.again.subscription (begins_again w.limits.reuses_numbers w.upstream.counters.subscription) none in
      ids_of_put subject w.upstream.links (is_link server cid) (next_sub_id w server + 1) (Some new) (lt-ltb new.id (next_sub_id w server + 1) (omega (arith, numbered)))
      (all_below_more w.upstream.counters.subscription (next_sub_id w server + 1) w.upstream.links (omega (arith, is)) (order.below before.0));
}
  where
    free : list_any (is_sharing server (Some new)) w.upstream.links ≡ false
    free = ap (λ (id : ℕ). list_any (has_subscription server id) w.upstream.links) numbered ∙ new_sub_id w server order

write_ids_with : (w : Gateway) (new : WaitingWrite) → new.id ≡ next_write_id w new.server → HasWriteIdsApart w
    → AreWriteIdsApart (w.upstream.counters.again.write || begins_again w.limits.reuses_numbers w.upstream.counters.write) (new.id + 1) (w.upstream.writes ++ new ∷ [])
write_ids_with w new numbered order = record {
  apart =
      unlike_pushed is_same_write w.upstream.writes new
      (none_weaker (is_write new.server (next_write_id w new.server)) (λ (write : WaitingWrite). is_same_write write new) w.upstream.writes
      (λ write other. (λ i. eqb new.server write.server && eqb (numbered i) write.id) ∙ both_swapped new.server write.server (next_write_id w new.server) write.id ∙ other)
      (write_is_new w new.server order)) order.apart;
  below = λ none.
      let is = next_is_counter w.limits.reuses_numbers w.config.first (λ (id : ℕ). list_any (is_write new.server id) w.upstream.writes) w.upstream.counters.again.write
      (map id_of (filter (is_write_to new.server) w.upstream.writes)) w.upstream.counters.write none in
      let before = or_parts w.upstream.counters.again.write (begins_again w.limits.reuses_numbers w.upstream.counters.write) none in
      below_pushed id_of w.upstream.counters.write (new.id + 1) w.upstream.writes new (omega (arith, is, numbered)) (omega arith) (order.below before.0);
}

pub numbers_apart_kept : IsKept AreNumbersApart
numbers_apart_kept = record {
  rows = record {
    messages = messages_kept AreNumbersApart (λ dest change w order. record { channels = order.channels; links = order.links; subscriptions = order.subscriptions; writes = order.writes });
    connection_added = λ dest w rowed order. record { channels = order.channels; links = order.links; subscriptions = order.subscriptions; writes = order.writes };
    session_added = λ row w there order. record { channels = order.channels; links = order.links; subscriptions = order.subscriptions; writes = order.writes };
    session_changed = λ number change w same order. record { channels = order.channels; links = order.links; subscriptions = order.subscriptions; writes = order.writes };
    server_added = λ row w order. record { channels = order.channels; links = order.links; subscriptions = order.subscriptions; writes = order.writes };
    server_changed = λ number minor w order. record { channels = order.channels; links = order.links; subscriptions = order.subscriptions; writes = order.writes };
    cache_left = λ stays w order. record { channels = order.channels; links = order.links; subscriptions = order.subscriptions; writes = order.writes };
    cached = λ server cid change w order. record { channels = order.channels; links = order.links; subscriptions = order.subscriptions; writes = order.writes };
    bare = λ cid w order. record { channels = order.channels; links = order.links; subscriptions = order.subscriptions; writes = order.writes };
    searches = λ rows w order. record { channels = order.channels; links = order.links; subscriptions = order.subscriptions; writes = order.writes };
    policy = λ policy w order. record { channels = order.channels; links = order.links; subscriptions = order.subscriptions; writes = order.writes };
    limits = λ limits w order. record { channels = order.channels; links = order.links; subscriptions = order.subscriptions; writes = order.writes };
    last_age = λ last w order. record { channels = order.channels; links = order.links; subscriptions = order.subscriptions; writes = order.writes };
    channel_added = λ session cid name real rights w fixed order. record {
      channels = sids_with w (new_channel session cid name real rights w) refl order.channels;
      links = order.links;
      subscriptions = order.subscriptions;
      writes = order.writes;
    };
    channel_changed = λ session sid reach rights w order. record {
      channels = sids_changed w.upstream.counters.again.sid w.upstream.counters.sid session sid (with_reach_and_rights reach rights) w.clients.channels (λ c. refl) (λ c. refl) order.channels;
      links = order.links;
      subscriptions = order.subscriptions;
      writes = order.writes;
    };
    channel_removed = λ session sid w order. record {
      channels = fewer_sids w.upstream.counters.again.sid w.upstream.counters.sid (is_not_channel session sid) w.clients.channels order.channels;
      links = order.links;
      subscriptions = order.subscriptions;
      writes = fewer_write_ids w.upstream.counters.again.write w.upstream.counters.write (is_not_write_on session sid) w.upstream.writes order.writes;
    };
    sub_added = λ sub w free on order. record { channels = order.channels; links = order.links; subscriptions = order.subscriptions; writes = order.writes };
    sub_changed = λ session id owed w order. record { channels = order.channels; links = order.links; subscriptions = order.subscriptions; writes = order.writes };
    sub_removed = λ session id w order. record { channels = order.channels; links = order.links; subscriptions = order.subscriptions; writes = order.writes };
    read_added = λ read w there order. record { channels = order.channels; links = order.links; subscriptions = order.subscriptions; writes = order.writes };
    read_removed = λ read w order. record { channels = order.channels; links = order.links; subscriptions = order.subscriptions; writes = order.writes };
    write_added = λ write w on next order. record {
      channels = order.channels;
      links = order.links;
      subscriptions = order.subscriptions;
      writes = write_ids_with w write next order.writes;
    };
    write_removed = λ server id w order. record {
      channels = order.channels;
      links = order.links;
      subscriptions = order.subscriptions;
      writes = fewer_write_ids w.upstream.counters.again.write w.upstream.counters.write (is_not_write server id) w.upstream.writes order.writes;
    };
    link_changed = λ server cid state rights w order. record {
      channels = order.channels;
      links = cids_changed w.upstream.counters.again.cid w.upstream.counters.cid server cid (with_state state rights) w.upstream.links (λ link. refl) order.links;
      subscriptions = sub_ids_in_state w.upstream.counters.again.subscription w.upstream.counters.subscription server cid state rights w.upstream.links order.subscriptions;
      writes = order.writes;
    };
    subscription_made = λ subject server cid mask count sent w order. record {
      channels = order.channels;
      links = cids_changed w.upstream.counters.again.cid w.upstream.counters.cid server cid (with_subscription subject (Some (record { id = next_sub_id w server; mask = mask; count = count; sent = sent }))) w.upstream.links (λ link. refl) order.links;
      subscriptions = sub_ids_with w subject server cid (record { id = next_sub_id w server; mask = mask; count = count; sent = sent }) refl order.subscriptions;
      writes = order.writes;
    };
    subscription_ended = λ subject server cid w order. record {
      channels = order.channels;
      links = cids_changed w.upstream.counters.again.cid w.upstream.counters.cid server cid (with_subscription subject None) w.upstream.links (λ link. refl) order.links;
      subscriptions = sub_ids_without w.upstream.counters.again.subscription w.upstream.counters.subscription subject server cid w.upstream.links order.subscriptions;
      writes = order.writes;
    };
    link_removed = λ server cid w order. record {
      channels = order.channels;
      links = fewer_cids w.upstream.counters.again.cid w.upstream.counters.cid (is_not_link server cid) w.upstream.links order.links;
      subscriptions = fewer_sub_ids w.upstream.counters.again.subscription w.upstream.counters.subscription (is_not_link server cid) w.upstream.links order.subscriptions;
      writes = order.writes;
    };
  };
  outbox_changed = λ dest change w order. record { channels = order.channels; links = order.links; subscriptions = order.subscriptions; writes = order.writes };
  session_removed = λ session w order. record {
    channels = fewer_sids w.upstream.counters.again.sid w.upstream.counters.sid (is_not_channel_of session) w.clients.channels order.channels;
    links = order.links;
    subscriptions = order.subscriptions;
    writes = fewer_write_ids w.upstream.counters.again.write w.upstream.counters.write (is_not_write_of session) w.upstream.writes order.writes;
  };
  server_removed = λ server w order. record {
    channels = order.channels;
    links = fewer_cids w.upstream.counters.again.cid w.upstream.counters.cid (is_not_of server) w.upstream.links order.links;
    subscriptions = fewer_sub_ids w.upstream.counters.again.subscription w.upstream.counters.subscription (is_not_of server) w.upstream.links order.subscriptions;
    writes = fewer_write_ids w.upstream.counters.again.write w.upstream.counters.write (is_not_write_to server) w.upstream.writes order.writes;
  };
}

pub numbers_apart_with_links : KeepsLinks AreNumbersApart
numbers_apart_with_links = λ server name w missing standing order. record {
  channels = order.channels;
  links = cids_with w server name order.links;
  subscriptions = sub_ids_with_link w.upstream.counters.again.subscription w.upstream.counters.subscription server (next_cid w) name w.upstream.links order.subscriptions;
  writes = order.writes;
}

pub initial_numbers_apart : (config : Config) (policy : Policy) → AreNumbersApart (initial config policy)
initial_numbers_apart config policy = record {
  channels = record { apart = record {}; below = λ before. refl };
  links = record { apart = record {}; below = λ before. refl };
  subscriptions = record { own = refl; apart = record {}; below = λ before. refl };
  writes = record { apart = record {}; below = λ before. refl };
}

pub run_numbers_apart : (config : Config) (policy : Policy) (events : List Event) → AreNumbersApart (run (initial config policy) events)
run_numbers_apart config policy events = kept_run AreNumbersApart numbers_apart_kept numbers_apart_with_links (initial config policy) events (initial_numbers_apart config policy)
