-- What is told on one variable, to one session, on one link, read or subscription alone.
use Rattle.std.specs.Prelude.{ℕ, List, [], Bool, true, if◌then◌else◌, filter, filter_map, flat_map, map, Option, Some, None}
use Rattle.std.specs.List.{fold}
use Rattle.named_rows.specs.declared.channels.Channel.{Channel}
use Rattle.named_rows.specs.declared.reads.WaitingRead.{WaitingRead}
use Rattle.named_rows.specs.declared.subs.ClientSub.{ClientSub}
use Rattle.named_rows.specs.Subs.{is_sub_of, with_owed}
use Rattle.link_table.specs.declared.links.LinkRow.{LinkRow}
use Rattle.gateway_state.specs.declared.notice.ChannelNotice.{ChannelNotice}
use Rattle.gateway_state.specs.declared.notice.ChannelNotice.TheVariants.{Disconnected}
use Rattle.gateway_state.specs.declared.notice.LinkNotice.{LinkNotice}
use Rattle.gateway_state.specs.declared.notice.ReadNotice.{ReadNotice}
use Rattle.gateway_state.specs.declared.notice.UpdateNotice.{UpdateNotice}
use Rattle.gateway_state.specs.Gateway.{Gateway}
use Rattle.gateway_state.specs.Notices.{channel_notice, channel_told, interest_notices, link_notices_of, link_told, read_notice, read_told}
use Rattle.gateway_state.specs.Servers.{waits_for}
use Rattle.gateway_state.specs.Updates.{is_sub_to, is_withheld, owed_to_all, update_notice, update_told}
use Rattle.named_rows.specs.Channels.{is_on}
use Rattle.gateway_state.specs.Variables.{is_among, link_of}

-- CHANNELS

abbrev pub channel_notices_on : List ℕ → Gateway → List ChannelNotice
channel_notices_on name w = filter_map (channel_notice w) (filter (is_on name) w.clients.channels)

-- on one variable, in the order of adding
abbrev pub channels_told_on : List ℕ → Gateway → Gateway
channels_told_on name w = fold channel_told w (channel_notices_on name w)

-- CHANNELS whose links are gone

abbrev pub is_channel_among : List (List ℕ) → Channel → Bool
is_channel_among names c = is_among names c.real

abbrev pub disconnected : Channel → ChannelNotice
disconnected c = Disconnected c.session c.sid c.cid

abbrev pub gone_notices_among : List (List ℕ) → Gateway → List ChannelNotice
gone_notices_among names w = map disconnected (filter (is_channel_among names) w.clients.channels)

-- the channels on several variables go, in the order of adding
abbrev pub channels_gone_on : List (List ℕ) → Gateway → Gateway
channels_gone_on names w = fold channel_told w (gone_notices_among names w)

-- LINKS

abbrev pub interest_notices_over : Gateway → Option LinkRow → List LinkNotice
interest_notices_over w None = []
interest_notices_over w (Some link) = interest_notices w link link.state

-- the server of one variable is asked for what the variable's readers want together
abbrev pub interest_told : List ℕ → Gateway → Gateway
interest_told name w = fold link_told w (interest_notices_over w (link_of w name))

abbrev pub link_notices_over : Gateway → Option LinkRow → List LinkNotice
link_notices_over w None = []
link_notices_over w (Some link) = link_notices_of w link

-- the same, and the link goes where nobody wants it
abbrev pub link_told_on : List ℕ → Gateway → Gateway
link_told_on name w = fold link_told w (link_notices_over w (link_of w name))

abbrev pub is_link_among : List (List ℕ) → LinkRow → Bool
is_link_among names link = is_among names link.name

abbrev pub link_notices_among : List (List ℕ) → Gateway → List LinkNotice
link_notices_among names w = flat_map (link_notices_of w) (filter (is_link_among names) w.upstream.links)

-- the same of the links of several variables, in the order of links
abbrev pub links_told_among : List (List ℕ) → Gateway → Gateway
links_told_among names w = fold link_told w (link_notices_among names w)

-- READS that wait

abbrev pub read_notices_on : List ℕ → Gateway → List ReadNotice
read_notices_on name w = filter_map (read_notice w) (filter (waits_for w name) w.clients.reads)

-- on one variable, in the order of asking
abbrev pub reads_told_on : List ℕ → Gateway → Gateway
reads_told_on name w = fold read_told w (read_notices_on name w)

abbrev pub read_told_if : Option ReadNotice → Gateway → Gateway
read_told_if None w = w
read_told_if (Some notice) w = read_told w notice

-- one read
abbrev pub one_read_told : WaitingRead → Gateway → Gateway
one_read_told read w = read_told_if (read_notice w read) w

-- UPDATES

-- a subscription is owed an update where it passes
abbrev pub owed_where : (ClientSub → Bool) → ClientSub → ClientSub
owed_where passes sub = if passes sub then with_owed true sub else sub

abbrev pub withheld_on : List ℕ → Gateway → List ClientSub
withheld_on name w = filter (is_withheld w) (filter (is_sub_to w name) w.clients.subs)

-- subscriptions to one variable are owed the latest value as long as their channels may not be read
abbrev pub updates_withheld_on : List ℕ → Gateway → Gateway
updates_withheld_on name w = owed_to_all w (withheld_on name w)

abbrev pub update_notices_on : List ℕ → Gateway → List UpdateNotice
update_notices_on name w = filter_map (update_notice w) (filter (is_sub_to w name) w.clients.subs)

-- on one variable, in the order in which the subscriptions were made
abbrev pub updates_told_on : List ℕ → Gateway → Gateway
updates_told_on name w = fold update_told w (update_notices_on name w)

abbrev pub update_notices_to : ℕ → Gateway → List UpdateNotice
update_notices_to number w = filter_map (update_notice w) (filter (is_sub_of number) w.clients.subs)

-- to one session
abbrev pub updates_told_to : ℕ → Gateway → Gateway
updates_told_to number w = fold update_told w (update_notices_to number w)

abbrev pub update_told_if : Option UpdateNotice → Gateway → Gateway
update_told_if None w = w
update_told_if (Some notice) w = update_told w notice

-- to one subscription
abbrev pub one_update_told : ClientSub → Gateway → Gateway
one_update_told sub w = update_told_if (update_notice w sub) w

-- ALL ON ONE VARIABLE

-- its channels, its link, the reads that wait for it and the subscriptions to it, pass by pass
abbrev pub variable_told : List ℕ → Gateway → Gateway
variable_told name w =
    updates_told_on name (reads_told_on name (link_told_on name (updates_withheld_on name (channels_told_on name w))))
