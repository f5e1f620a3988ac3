-- How many rows of clients are looked at for what follows from an event.
use Rattle.std.specs.Prelude.{ℕ, ◌+◌, ◌*◌, List, [], ◌∷◌, filter, length, Option, Some, None}
use Rattle.gateway_rows.specs.Own.{channels_on, reads_on, subs_on}
use Rattle.gateway_state.specs.declared.notice.ChannelNotice.{ChannelNotice}
use Rattle.gateway_state.specs.declared.notice.ChannelNotice.TheVariants.{Disconnected, RightsChanged}
use Rattle.gateway_state.specs.Gateway.{Gateway}
use Rattle.named_rows.specs.Subs.{is_sub_on}
use Rattle.touched_rows.specs.declared.touched.Touched.{Touched}
use Rattle.touched_rows.specs.declared.touched.Touched.TheVariants.{Nothing, Value, Variable, Interest, Link, Links, Read, Subscription}

-- A channel that is gone is taken away unseen. Of one whose rights changed its row is looked at, and the subscriptions
-- on it where it may not be read any more
abbrev pub notice_looks : Gateway → ChannelNotice → ℕ
notice_looks w (Disconnected session sid cid) = 0
notice_looks w (RightsChanged session sid cid reach rights) = 2 + length (filter (is_sub_on session sid) w.clients.subs)

-- all of these
abbrev pub notices_looks : Gateway → List ChannelNotice → ℕ
notices_looks w [] = 0
notices_looks w (notice ∷ notices) = notice_looks w notice + notices_looks w notices

-- A value, or properties, are told to each subscription to the variable and each read that waits for it; of rights,
-- and that a channel is gone, its channels are told too. What a server is asked for is counted, whatever rows there are: a read or a subscription that is new is looked at alone
abbrev pub looks_after : Touched → Gateway → Option ℕ
looks_after (Value name concern) w = Some (6 * subs_on w name + 2 * reads_on w name)
looks_after (Variable name) w = Some (4 * channels_on w name + 9 * subs_on w name + 2 * reads_on w name)
looks_after Nothing w = Some 0
looks_after (Interest name) w = Some 0
looks_after (Link name) w = Some 0
looks_after (Links names) w = Some 0
looks_after (Read name read) w = Some 1
looks_after (Subscription name sub) w = Some 4
looks_after touched w = None
