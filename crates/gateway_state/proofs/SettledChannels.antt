-- The pass over channels leaves nothing that it would tell.
use Rattle.std.proofs.Common.{◌≡◌, ℕ, List, [], ◌∷◌, Bool, true, false, cond, eqb, not, Option, Some, None, refl, ap, ◌∙◌}
use Rattle.std.specs.Prelude.{filter, filter_map}
use Rattle.std.specs.List.{fold, cons_option, list_any}
use Rattle.std.proofs.lemmas.Bool.{and_from, eq-eqb, or_parts}
use Rattle.rows.specs.Rows.{change_first}
use Rattle.ca_message.specs.declared.to_client.ToClient.TheVariants as replies
use Rattle.named_rows.specs.declared.channels.Channel.{Channel}
use Rattle.named_rows.specs.declared.reads.WaitingRead.{WaitingRead}
use Rattle.named_rows.specs.declared.subs.ClientSub.{ClientSub}
use Rattle.named_rows.specs.Channels.{is_channel, is_not_channel, with_reach_and_rights}
use Rattle.link_table.specs.declared.writes.WaitingWrite.{WaitingWrite}
use Rattle.gateway_state.specs.declared.connections.Connection.{Connection}
use Rattle.gateway_state.specs.declared.notice.ChannelNotice.{ChannelNotice}
use Rattle.gateway_state.specs.declared.notice.ChannelNotice.TheVariants.{Disconnected, RightsChanged}
use Rattle.gateway_state.specs.Gateway.{Gateway}
use Rattle.gateway_state.specs.Notices.{channel_notice, channel_notices, channel_told, channels_told, loses_reading, with_reach}
use Rattle.gateway_state.specs.Rights.{channel_of, rights_of, is_served}
use Rattle.gateway_state.specs.Settled.{AreUnlike, HasSidsApart, is_same_channel}
use Rattle.gateway_state.specs.Telling.{sent, told}
use Rattle.gateway_state.proofs.ReadingEnded.{reading_ended_shape}
use Rattle.gateway_state.proofs.UnlikeRows.{both_swapped, filter_absent}

-- what a notice leaves of the channels
abbrev left_by : List Channel → ChannelNotice → List Channel
left_by rows (Disconnected session sid cid) = filter (is_not_channel session sid) rows
left_by rows (RightsChanged session sid cid reach rights) = change_first (is_channel session sid) (with_reach_and_rights reach rights) rows

-- a state with other channels, and what goes with them
abbrev with_channels : Gateway → List Connection → List Channel → List ClientSub → List WaitingRead → List WaitingWrite → Gateway
with_channels w connections channels subs reads writes =
    record w { connections = connections; clients = record w.clients { channels = channels; subs = subs; reads = reads }; upstream = record w.upstream { writes = writes } }

-- notices on channels change nothing else
channels_changed : (notices : List ChannelNotice) (w : Gateway)
    → fold channel_told w notices
    ≡ with_channels w (fold channel_told w notices).connections (fold left_by w.clients.channels notices) (fold channel_told w notices).clients.subs (fold channel_told w notices).clients.reads (fold channel_told w notices).upstream.writes
unfolding sent
channels_changed [] w = refl
channels_changed (Disconnected session sid cid ∷ notices) w = channels_changed notices (channel_told w (Disconnected session sid cid))
channels_changed (RightsChanged session sid cid reach rights ∷ notices) w =
    let next : Gateway = channel_told w (RightsChanged session sid cid reach rights) in
    let last : Gateway = fold channel_told next notices in
    channels_changed notices next
    ∙ ap (λ (v : Gateway). with_channels v last.connections (fold left_by v.clients.channels notices) last.clients.subs last.clients.reads last.upstream.writes)
    (reading_ended_shape session sid (loses_reading w rights (channel_of w session sid))
    (told session (replies.AccessRights cid rights) (with_reach session sid reach rights w)))

-- the notice on a channel, by what it rests on
abbrev pub notice_by : Bool → Bool → ℕ → Channel → Option ChannelNotice
notice_by served same rights c =
    cond (not served) (Some (Disconnected c.session c.sid c.cid)) (cond same None (Some (RightsChanged c.session c.sid c.cid c.reach rights)))

itself : (c : Channel) → is_channel c.session c.sid c ≡ true
itself c = and_from (eqb c.session c.session) (eqb c.sid c.sid) (eq-eqb c.session c.session refl) (eq-eqb c.sid c.sid refl)

-- notices on later channels leave a channel as it is
kept_by_later : (w : Gateway) (rows : List Channel) (c : Channel) (others : List Channel) → list_any (is_same_channel c) rows ≡ false
    → fold left_by (c ∷ others) (filter_map (channel_notice w) rows) ≡ c ∷ fold left_by others (filter_map (channel_notice w) rows)
kept_by_later w [] c others none = refl
kept_by_later w (row ∷ rows) c others none =
    by (is_served w row) (eqb row.rights_told (rights_of w row)) (λ left. kept_by_later w rows c left parts.1)
  where
    parts : (is_same_channel c row ≡ false) × (list_any (is_same_channel c) rows ≡ false)
    parts = or_parts (is_same_channel c row) (list_any (is_same_channel c) rows) none

    other : is_channel row.session row.sid c ≡ false
    other = both_swapped c.session row.session c.sid row.sid ∙ parts.0

    by : (served same : Bool)
        → ((left : List Channel) → fold left_by (c ∷ left) (filter_map (channel_notice w) rows) ≡ c ∷ fold left_by left (filter_map (channel_notice w) rows))
        → fold left_by (c ∷ others) (cons_option (notice_by served same (rights_of w row) row) (filter_map (channel_notice w) rows))
        ≡ c ∷ fold left_by others (cons_option (notice_by served same (rights_of w row) row) (filter_map (channel_notice w) rows))
    by false same on =
        let step : filter (is_not_channel row.session row.sid) (c ∷ others) ≡ c ∷ filter (is_not_channel row.session row.sid) others = rw other refl in
        ap (λ (left : List Channel). fold left_by left (filter_map (channel_notice w) rows)) step ∙ on (filter (is_not_channel row.session row.sid) others)
    by true true on = on others
    by true false on =
        let change : Channel → Channel = with_reach_and_rights row.reach (rights_of w row) in
        let step : change_first (is_channel row.session row.sid) change (c ∷ others) ≡ c ∷ change_first (is_channel row.session row.sid) change others = rw other refl in
        ap (λ (left : List Channel). fold left_by left (filter_map (channel_notice w) rows)) step ∙ on (change_first (is_channel row.session row.sid) change others)

-- once all notices on channels are given, none of the channels left has one
quiet_channels : (w : Gateway) (rows : List Channel) → AreUnlike is_same_channel rows
    → filter_map (channel_notice w) (fold left_by rows (filter_map (channel_notice w) rows)) ≡ []
quiet_channels w [] apart = refl
quiet_channels w (row ∷ rows) apart =
    by (is_served w row) (eqb row.rights_told (rights_of w row)) refl refl (quiet_channels w rows apart.1)
  where
    gone : filter (is_not_channel row.session row.sid) rows ≡ rows
    gone = filter_absent (is_channel row.session row.sid) rows apart.0

    kept : (c : Channel) → list_any (is_same_channel c) rows ≡ false
        → fold left_by (c ∷ rows) (filter_map (channel_notice w) rows) ≡ c ∷ fold left_by rows (filter_map (channel_notice w) rows)
    kept c none = kept_by_later w rows c rows none

    by : (served same : Bool) → is_served w row ≡ served → eqb row.rights_told (rights_of w row) ≡ same
        → filter_map (channel_notice w) (fold left_by rows (filter_map (channel_notice w) rows)) ≡ []
        → filter_map (channel_notice w) (fold left_by (row ∷ rows) (cons_option (notice_by served same (rights_of w row) row) (filter_map (channel_notice w) rows))) ≡ []
    by false same is_so is_same rest =
        let step : filter (is_not_channel row.session row.sid) (row ∷ rows) ≡ rows = rw (itself row) gone in
        ap (λ (left : List Channel). filter_map (channel_notice w) (fold left_by left (filter_map (channel_notice w) rows))) step ∙ rest
    by true true is_so is_same rest = rw (kept row apart.0, is_so, is_same) rest
    by true false is_so is_same rest =
        let new : Channel = with_reach_and_rights row.reach (rights_of w row) row in
        let step : change_first (is_channel row.session row.sid) (with_reach_and_rights row.reach (rights_of w row)) (row ∷ rows) ≡ new ∷ rows = rw (itself row) refl in
        ap (λ (left : List Channel). filter_map (channel_notice w) (fold left_by left (filter_map (channel_notice w) rows))) step
        ∙ rw (kept new apart.0, is_so, eq-eqb (rights_of w row) (rights_of w row) refl) rest

-- after the pass no channel is owed a notice
pub channels_settled : (w : Gateway) → HasSidsApart w → channel_notices (channels_told w) ≡ []
channels_settled w order =
    ap channel_notices (channels_changed (channel_notices w) w) ∙ quiet_channels w w.clients.channels order.apart
