-- The next numbers are new: no row has them.
use Rattle.std.proofs.Common.{◌≡◌, ℕ, ◌<◌, List, map, true, false, eqb, ◌&&◌, Option, Some, None, refl, arith}
use Rattle.std.specs.Prelude.{filter, flat_map, if◌then◌else◌}
use Rattle.std.specs.List.{list_any}
use Rattle.std.proofs.lemmas.Bool.{and_parts, and_right, ltb-true, ne_eqb, or_from, or_parts}
use Rattle.named_rows.specs.declared.channels.Channel.{Channel}
use Rattle.named_rows.specs.Channels.{is_channel, is_channel_of}
use Rattle.channel_table.specs.ClientRows.{has_channel}
use Rattle.link_table.specs.declared.links.LinkRow.{LinkRow}
use Rattle.link_table.specs.declared.links.Subject.{Subject}
use Rattle.link_table.specs.declared.links.Subject.TheVariants.{Values, Properties}
use Rattle.link_table.specs.declared.links.Subscription.{Subscription}
use Rattle.link_table.specs.declared.writes.WaitingWrite.{WaitingWrite}
use Rattle.link_table.specs.LinkRows.{has_link}
use Rattle.link_table.specs.Links.{has_id, has_other_sub, has_subscription, is_link, is_named, is_of, with_subscription}
use Rattle.link_table.specs.Writes.{is_write, is_write_to}
use Rattle.link_table.specs.Numbers.{cid_of, has_cid_below, has_id_below, has_write_id_below, id_of, is_of_cid, is_sub_below, sub_ids}
use Rattle.gateway_state.specs.Clients.{next_sid, sid_of, sids_of}
use Rattle.gateway_state.specs.Gateway.{Gateway}
use Rattle.gateway_state.specs.Notices.{next_sub_id}
use Rattle.gateway_state.specs.Servers.{next_cid}
use Rattle.gateway_state.specs.Settled.{AreNumbersApart, HasCidsApart, HasSidsApart, HasSubIdsApart, HasWriteIdsApart, has_sid_below}
use Rattle.gateway_state.specs.Variables.{is_linked}
use Rattle.gateway_state.specs.Writing.{next_write_id}
use Rattle.gateway_state.proofs.NextNumbers.{next_is_new, no_sub_past, none_past, none_past_all}
use Rattle.gateway_state.proofs.RowTests.{none_found, none_passes, none_weaker}

-- CHANNELS

-- a channel below the next number has another
other_channel : (session next : ℕ) (c : Channel) → has_sid_below next c ≡ true → is_channel session next c ≡ false
other_channel session next c below =
    let less : c.sid < next = ltb-true c.sid next below in
    and_right (eqb c.session session) (eqb c.sid next) (ne_eqb c.sid next (λ same. omega (arith, less, same)))

-- no channel of the session has the next number
pub new_sid : (w : Gateway) (session : ℕ) → HasSidsApart w → has_channel session (next_sid w session) w.clients ≡ false
new_sid w session order =
    let next : ℕ = w.upstream.counters.sid in
    next_is_new w.limits.reuses_numbers w.config.first (λ (sid : ℕ). has_channel session sid w.clients) w.upstream.counters.again.sid (sids_of session w) next
    (λ before. none_passes (has_sid_below next) (is_channel session next) w.clients.channels (λ c below. other_channel session next c below) (order.below before))
    (λ sid beyond. none_past (is_channel_of session) sid_of sid w.clients.channels beyond)

-- LINKS

other_link : (next : ℕ) (link : LinkRow) → has_cid_below next link ≡ true → is_of_cid next link ≡ false
other_link next link below = let less : link.cid < next = ltb-true link.cid next below in ne_eqb link.cid next (λ same. omega (arith, less, same))

-- no link has the next number
pub new_number : (w : Gateway) → HasCidsApart w → list_any (is_of_cid (next_cid w)) w.upstream.links ≡ false
new_number w order =
    let next : ℕ = w.upstream.counters.cid in
    next_is_new w.limits.reuses_numbers w.config.first (λ (cid : ℕ). list_any (is_of_cid cid) w.upstream.links) w.upstream.counters.again.cid (map cid_of w.upstream.links) next
    (λ before. none_passes (has_cid_below next) (is_of_cid next) w.upstream.links (λ link below. other_link next link below) (order.below before))
    (λ cid beyond. none_past_all cid_of cid w.upstream.links beyond)

-- nor has one of this server
pub new_cid : (w : Gateway) (server : ℕ) → HasCidsApart w → has_link server (next_cid w) w.upstream ≡ false
new_cid w server order =
    none_weaker (is_of_cid (next_cid w)) (is_link server (next_cid w)) w.upstream.links (λ link other. and_right (eqb link.server server) (is_of_cid (next_cid w) link) other) (new_number w order)

-- a name without a link
pub unlinked : (w : Gateway) (name : List ℕ) → is_linked w name ≡ false → list_any (is_named name) w.upstream.links ≡ false
unlinked w name none = none_found (is_named name) w.upstream.links none

-- SUBSCRIPTIONS

other_id : (next : ℕ) (sub : Option Subscription) → is_sub_below next sub ≡ true → has_id next sub ≡ false
other_id next None below = refl
other_id next (Some sub) below = let less : sub.id < next = ltb-true sub.id next below in ne_eqb sub.id next (λ same. omega (arith, less, same))

other_ids : (server next : ℕ) (link : LinkRow) → has_id_below next link ≡ true → has_subscription server next link ≡ false
other_ids server next link below =
    let both = and_parts (is_sub_below next link.subscriptions.values) (is_sub_below next link.subscriptions.properties) below in
    or_from (is_of server link && has_id next link.subscriptions.values) (is_of server link && has_id next link.subscriptions.properties)
    (and_right (is_of server link) (has_id next link.subscriptions.values) (other_id next link.subscriptions.values both.0))
    (and_right (is_of server link) (has_id next link.subscriptions.properties) (other_id next link.subscriptions.properties both.1))

-- no subscription to the server has the next ID
pub new_sub_id : (w : Gateway) (server : ℕ) → HasSubIdsApart w → list_any (has_subscription server (next_sub_id w server)) w.upstream.links ≡ false
new_sub_id w server order =
    let next : ℕ = w.upstream.counters.subscription in
    next_is_new w.limits.reuses_numbers w.config.first (λ (id : ℕ). list_any (has_subscription server id) w.upstream.links) w.upstream.counters.again.subscription
    (flat_map sub_ids (filter (is_of server) w.upstream.links)) next
    (λ before. none_passes (has_id_below next) (has_subscription server next) w.upstream.links (λ link below. other_ids server next link below) (order.below before))
    (λ id beyond. no_sub_past server id w.upstream.links beyond)

-- a link without the ID is without it too once it lost a subscription
without_it : (server id : ℕ) (subject : Subject) (link : LinkRow) → has_subscription server id link ≡ false → has_subscription server id (with_subscription subject None link) ≡ false
without_it server id Values link none =
    or_from (is_of server link && false) (is_of server link && has_id id link.subscriptions.properties) (and_right (is_of server link) false refl)
    (or_parts (is_of server link && has_id id link.subscriptions.values) (is_of server link && has_id id link.subscriptions.properties) none).1
without_it server id Properties link none =
    or_from (is_of server link && has_id id link.subscriptions.values) (is_of server link && false)
    (or_parts (is_of server link && has_id id link.subscriptions.values) (is_of server link && has_id id link.subscriptions.properties) none).0 (and_right (is_of server link) false refl)

no_other : (server cid : ℕ) (subject : Subject) (id : ℕ) (link : LinkRow) → has_subscription server id link ≡ false → has_other_sub server cid subject id link ≡ false
no_other server cid subject id link none =
    elim (is_link server cid link) as (λ t. has_subscription server id (if t then with_subscription subject None link else link) ≡ false)
    [ true ↦ without_it server id subject link none | false ↦ none ]

-- no other subscription has the next ID
pub new_id : (w : Gateway) (server cid : ℕ) (subject : Subject) → AreNumbersApart w → list_any (has_other_sub server cid subject (next_sub_id w server)) w.upstream.links ≡ false
new_id w server cid subject order =
    none_weaker (has_subscription server (next_sub_id w server)) (has_other_sub server cid subject (next_sub_id w server)) w.upstream.links
    (λ link none. no_other server cid subject (next_sub_id w server) link none) (new_sub_id w server order.subscriptions)

-- WRITES

other_write : (server next : ℕ) (write : WaitingWrite) → has_write_id_below next write ≡ true → is_write server next write ≡ false
other_write server next write below =
    let less : write.id < next = ltb-true write.id next below in
    and_right (eqb write.server server) (eqb write.id next) (ne_eqb write.id next (λ same. omega (arith, less, same)))

-- no write to the server waits under the next ID
pub write_is_new : (w : Gateway) (server : ℕ) → HasWriteIdsApart w → list_any (is_write server (next_write_id w server)) w.upstream.writes ≡ false
write_is_new w server order =
    let next : ℕ = w.upstream.counters.write in
    next_is_new w.limits.reuses_numbers w.config.first (λ (id : ℕ). list_any (is_write server id) w.upstream.writes) w.upstream.counters.again.write
    (map id_of (filter (is_write_to server) w.upstream.writes)) next
    (λ before. none_passes (has_write_id_below next) (is_write server next) w.upstream.writes (λ write below. other_write server next write below) (order.below before))
    (λ id beyond. none_past (is_write_to server) id_of id w.upstream.writes beyond)
