-- What tellings leave as it is.
use Rattle.std.proofs.Common.{◌≡◌, List, [], ◌∷◌, refl, ap, ◌∙◌}
use Rattle.std.specs.List.{fold}
use Rattle.ca_message.specs.declared.to_client.ToClient.TheVariants as replies
use Rattle.named_rows.specs.declared.channels.Channel.{Channel}
use Rattle.named_rows.specs.declared.reads.WaitingRead.{WaitingRead}
use Rattle.named_rows.specs.declared.subs.ClientSub.{ClientSub}
use Rattle.link_table.specs.declared.links.LinkState.TheVariants.{Creating, Connected, Unusable}
use Rattle.link_table.specs.declared.writes.WaitingWrite.{WaitingWrite}
use Rattle.link_table.specs.LinkRows.{LinkRows}
use Rattle.gateway_state.specs.declared.cached.LastMessage.{LastMessage}
use Rattle.gateway_state.specs.declared.connections.Connection.{Connection}
use Rattle.gateway_state.specs.declared.notice.ChannelNotice.{ChannelNotice}
use Rattle.gateway_state.specs.declared.notice.ChannelNotice.TheVariants.{Disconnected, RightsChanged}
use Rattle.gateway_state.specs.declared.notice.LinkNotice.{LinkNotice}
use Rattle.gateway_state.specs.declared.notice.LinkNotice.TheVariants.{Cancelled, Unread, Subscribed, Dropped}
use Rattle.gateway_state.specs.declared.notice.ReadNotice.{ReadNotice}
use Rattle.gateway_state.specs.declared.notice.ReadNotice.TheVariants.{Refused, Answered}
use Rattle.gateway_state.specs.Gateway.{Gateway}
use Rattle.gateway_state.specs.Notices.{channel_told, link_told, loses_reading, read_told, with_reach}
use Rattle.gateway_state.specs.Rights.{channel_of}
use Rattle.gateway_state.specs.Telling.{sent, told}
use Rattle.gateway_state.proofs.ReadingEnded.{reading_ended_shape}

-- a state with other channels, and what goes with them
abbrev pub with_channels : Gateway → List Connection → List Channel → List ClientSub → List WaitingRead → List WaitingWrite → Gateway
with_channels w connections channels subs reads writes =
    record w { connections = connections; clients = record w.clients { channels = channels; subs = subs; reads = reads }; upstream = record w.upstream { writes = writes } }

-- notices on channels change nothing else
pub channels_told_shape : (notices : List ChannelNotice) (w : Gateway)
    → fold channel_told w notices
    ≡ with_channels w (fold channel_told w notices).connections (fold channel_told w notices).clients.channels (fold channel_told w notices).clients.subs (fold channel_told w notices).clients.reads (fold channel_told w notices).upstream.writes
unfolding sent
channels_told_shape [] w = refl
channels_told_shape (Disconnected session sid cid ∷ notices) w = channels_told_shape notices (channel_told w (Disconnected session sid cid))
channels_told_shape (RightsChanged session sid cid reach rights ∷ notices) w =
    let next : Gateway = channel_told w (RightsChanged session sid cid reach rights) in
    let last : Gateway = fold channel_told next notices in
    channels_told_shape notices next
    ∙ ap (λ (v : Gateway). with_channels v last.connections last.clients.channels last.clients.subs last.clients.reads last.upstream.writes)
    (reading_ended_shape session sid (loses_reading w rights (channel_of w session sid))
    (told session (replies.AccessRights cid rights) (with_reach session sid reach rights w)))

-- a state with other waiting reads and outboxes
abbrev pub with_reads : Gateway → List Connection → List WaitingRead → Gateway
with_reads w connections reads = record w { connections = connections; clients = record w.clients { reads = reads } }

-- answers to reads change nothing else
pub reads_told_shape : (notices : List ReadNotice) (w : Gateway)
    → fold read_told w notices ≡ with_reads w (fold read_told w notices).connections (fold read_told w notices).clients.reads
unfolding sent
reads_told_shape [] w = refl
reads_told_shape (Refused read code ∷ notices) w = reads_told_shape notices (read_told w (Refused read code))
reads_told_shape (Answered read count payload ∷ notices) w = reads_told_shape notices (read_told w (Answered read count payload))

-- a state with other links, last messages and outboxes
abbrev pub with_links : Gateway → List Connection → List LastMessage → LinkRows → Gateway
with_links w connections cache upstream = record w { connections = connections; cache = cache; upstream = upstream }

-- what servers are told changes nothing else
pub links_told_shape : (notices : List LinkNotice) (w : Gateway)
    → fold link_told w notices ≡ with_links w (fold link_told w notices).connections (fold link_told w notices).cache (fold link_told w notices).upstream
unfolding sent
links_told_shape [] w = refl
links_told_shape (Cancelled subject server cid sid dtype sub ∷ notices) w = links_told_shape notices (link_told w (Cancelled subject server cid sid dtype sub))
links_told_shape (Unread subject cid ∷ notices) w = links_told_shape notices (link_told w (Unread subject cid))
links_told_shape (Subscribed subject server cid sid dtype want asked ∷ notices) w =
    links_told_shape notices (link_told w (Subscribed subject server cid sid dtype want asked))
links_told_shape (Dropped server cid Creating ∷ notices) w = links_told_shape notices (link_told w (Dropped server cid Creating))
links_told_shape (Dropped server cid Unusable ∷ notices) w = links_told_shape notices (link_told w (Dropped server cid Unusable))
links_told_shape (Dropped server cid (Connected sid dtype native) ∷ notices) w =
    links_told_shape notices (link_told w (Dropped server cid (Connected sid dtype native)))
