use Rattle.std.proofs.Common.{◌≡◌, ℕ, suc, ◌+◌, ◌<◌, List, [], ◌∷◌, Bool, true, false, ◌||◌, cond, length, drop, get_or, refl, sym, ap, ◌∙◌}
use Rattle.std.proofs.Math.Seq.{drop-cons}
use Rattle.std.specs.Prelude.{filter, flat_map}
use Rattle.std.specs.List.{fold, list_any}
use Rattle.std.proofs.lemmas.Bool.{or_left, or_right}
use Rattle.link_table.specs.declared.counter.Counter.TheVariants.{Subscription as CountsSubscriptions}
use Rattle.link_table.specs.Counters.{is_over, are_over, given_out}
use Rattle.link_table.specs.Links.{has_subscription, is_of}
use Rattle.link_table.specs.LinkRows.{Counters}
use Rattle.link_table.specs.Numbers.{sub_ids}
use Rattle.gateway_state.specs.declared.notice.ChannelNotice.{ChannelNotice}
use Rattle.gateway_state.specs.declared.notice.ChannelNotice.TheVariants as channels
use Rattle.gateway_state.specs.declared.notice.LinkNotice.{LinkNotice}
use Rattle.gateway_state.specs.declared.notice.LinkNotice.TheVariants as links
use Rattle.named_rows.specs.declared.subs.ClientSub.{ClientSub}
use Rattle.gateway_state.specs.declared.notice.ReadNotice.{ReadNotice}
use Rattle.gateway_state.specs.declared.notice.ReadNotice.TheVariants as reads
use Rattle.gateway_state.specs.declared.notice.UpdateNotice.{UpdateNotice}
use Rattle.ca_message.specs.declared.to_client.ToClient.TheVariants as replies
use Rattle.link_table.specs.declared.links.LinkState.TheVariants.{Creating, Connected, Unusable}
use Rattle.gateway_state.specs.Gateway.{Gateway}
use Rattle.gateway_state.specs.Notices.{channel_told, channels_told, channel_notices, loses_reading, with_reach, link_told, links_told, link_notices, next_sub_id, read_told, reads_told, read_notices}
use Rattle.gateway_state.specs.Numbers.{is_past_numbers}
use Rattle.gateway_state.specs.Rights.{channel_of}
use Rattle.gateway_state.specs.Step.{consequences}
use Rattle.gateway_state.specs.Telling.{sent, told}
use Rattle.gateway_state.proofs.NextNumbers.{next_is_past}
use Rattle.gateway_state.proofs.ReadingEnded.{reading_ended_shape}
use Rattle.gateway_state.specs.Updates.{takes_updates, owed_to, owed_to_all, update_notices, update_told, updates_told, updates_withheld, with_owed_of, withheld}

-- of four counters one is past its end, also once one of them went on
one_of_four : (a b c d after : Bool) → (c ≡ true → after ≡ true) → (a || b || c || d) ≡ true → (a || b || after || d) ≡ true
one_of_four true b c d after stays e = refl
one_of_four false true c d after stays e = refl
one_of_four false false true d after stays e = or_left after d (stays refl)
one_of_four false false false d after stays e = or_right after d e

-- the ID of a subscription is given out
id_given_past : (w : Gateway) (server : ℕ) → is_past_numbers w ≡ true
    → are_over (given_out CountsSubscriptions w.limits.reuses_numbers (next_sub_id w server) w.upstream.counters) ≡ true
unfolding is_past_numbers
id_given_past w server e =
    let counters : Counters = w.upstream.counters in
    one_of_four (is_over counters.sid) (is_over counters.cid) (is_over counters.subscription) (is_over counters.write) (is_over (next_sub_id w server + 1))
    (λ over.
    next_is_past w.limits.reuses_numbers w.config.first (λ (id : ℕ). list_any (has_subscription server id) w.upstream.links) counters.again.subscription
    (flat_map sub_ids (filter (is_of server) w.upstream.links)) counters.subscription over) e

-- no notice on a link takes a number back
link_told_past : (w : Gateway) (notice : LinkNotice) → is_past_numbers w ≡ true → is_past_numbers (link_told w notice) ≡ true
unfolding sent is_past_numbers
link_told_past w (links.Cancelled subject server cid sid dtype sub) e = e
link_told_past w (links.Unread subject cid) e = e
link_told_past w (links.Subscribed subject server cid sid dtype want sent_count) e = id_given_past w server e
link_told_past w (links.Dropped server cid Creating) e = e
link_told_past w (links.Dropped server cid Unusable) e = e
link_told_past w (links.Dropped server cid (Connected sid dtype count)) e = e

-- neither do several
pub notices_told_past : (w : Gateway) (notices : List LinkNotice) → is_past_numbers w ≡ true → is_past_numbers (fold link_told w notices) ≡ true
notices_told_past w [] e = e
notices_told_past w (notice ∷ notices) e = notices_told_past (link_told w notice) notices (link_told_past w notice e)

-- the same where some of them were given already, and giving the next one took the number
pub notices_told_past_at : (w end : Gateway) (notices : List LinkNotice) (place : ℕ) (d : LinkNotice) → place < length notices → fold link_told w (drop place notices) ≡ end → is_past_numbers (link_told w (get_or notices place d)) ≡ true → is_past_numbers end ≡ true
notices_told_past_at w end notices place d within is e =
    let left : fold link_told (link_told w (get_or notices place d)) (drop (suc place) notices) ≡ end = ap (fold link_told w) (sym (drop-cons notices place d within)) ∙ is in
    ap is_past_numbers (sym left) ∙ notices_told_past (link_told w (get_or notices place d)) (drop (suc place) notices) e

channel_told_past : (w : Gateway) (notice : ChannelNotice) → is_past_numbers w ≡ true → is_past_numbers (channel_told w notice) ≡ true
unfolding sent is_past_numbers
channel_told_past w (channels.Disconnected session sid cid) e = e
channel_told_past w (channels.RightsChanged session sid cid reach rights) e =
    ap is_past_numbers
    (reading_ended_shape session sid (loses_reading w rights (channel_of w session sid))
    (told session (replies.AccessRights cid rights) (with_reach session sid reach rights w)))
    ∙ e

all_channels_past : (w : Gateway) (notices : List ChannelNotice) → is_past_numbers w ≡ true → is_past_numbers (fold channel_told w notices) ≡ true
all_channels_past w [] e = e
all_channels_past w (notice ∷ notices) e = all_channels_past (channel_told w notice) notices (channel_told_past w notice e)

pub read_told_past : (w : Gateway) (notice : ReadNotice) → is_past_numbers w ≡ true → is_past_numbers (read_told w notice) ≡ true
unfolding sent is_past_numbers
read_told_past w (reads.Refused read code) e = e
read_told_past w (reads.Answered read count payload) e = e

pub all_reads_past : (w : Gateway) (notices : List ReadNotice) → is_past_numbers w ≡ true → is_past_numbers (fold read_told w notices) ≡ true
all_reads_past w [] e = e
all_reads_past w (notice ∷ notices) e = all_reads_past (read_told w notice) notices (read_told_past w notice e)

-- nor does answering reads
pub reads_told_past : (w : Gateway) → is_past_numbers w ≡ true → is_past_numbers (reads_told w) ≡ true
reads_told_past w e = all_reads_past w (read_notices w) e

-- nor does owing updates, or giving those that are due
owed_to_all_past : (w : Gateway) (subs : List ClientSub) → is_past_numbers w ≡ true → is_past_numbers (owed_to_all w subs) ≡ true
unfolding is_past_numbers
owed_to_all_past w [] e = e
owed_to_all_past w (sub ∷ subs) e = owed_to_all_past (owed_to w sub) subs e

pub update_told_past : (w : Gateway) (notice : UpdateNotice) → is_past_numbers w ≡ true → is_past_numbers (update_told w notice) ≡ true
unfolding sent is_past_numbers
update_told_past w notice e =
    elim (takes_updates w notice.session) as (λ t. is_past_numbers (cond t (told notice.session (replies.Update notice.id notice.dtype notice.count notice.payload) (with_owed_of notice.session notice.id false w)) w) ≡ true)
    [ true ↦ e | false ↦ e ]

pub all_updates_past : (w : Gateway) (notices : List UpdateNotice) → is_past_numbers w ≡ true → is_past_numbers (fold update_told w notices) ≡ true
all_updates_past w [] e = e
all_updates_past w (notice ∷ notices) e = all_updates_past (update_told w notice) notices (update_told_past w notice e)

pub updates_told_past : (w : Gateway) → is_past_numbers w ≡ true → is_past_numbers (updates_told w) ≡ true
updates_told_past w e = all_updates_past w (update_notices w) e

-- nor does anything that follows the pass over links
pub links_told_past : (w : Gateway) → is_past_numbers (links_told w) ≡ true → is_past_numbers (updates_told (reads_told (links_told w))) ≡ true
links_told_past w e = updates_told_past (reads_told (links_told w)) (reads_told_past (links_told w) e)

-- once a number past the last one was given out, that stays so whatever follows from an event
pub consequences_past : (w : Gateway) → is_past_numbers w ≡ true → is_past_numbers (consequences w) ≡ true
consequences_past w e =
    let told = channels_told w in
    let served = updates_withheld told in
    links_told_past served (notices_told_past served (link_notices served) (owed_to_all_past told (withheld told) (all_channels_past w (channel_notices w) e)))
