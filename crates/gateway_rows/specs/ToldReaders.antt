-- The readers of a variable, by the rights that their clients were last told.
use Rattle.std.specs.Prelude.{ℕ, List, Bool, false, ◌&&◌, nat_lt, Option, Some, None}
use Rattle.named_rows.specs.declared.channels.Channel.{Channel}
use Rattle.named_rows.specs.declared.subs.ClientSub.{ClientSub}
use Rattle.gateway_state.specs.Gateway.{Gateway}
use Rattle.gateway_state.specs.Rights.{channel_of, may_read}
use Rattle.named_rows.specs.Channels.{is_on}

-- a channel on the variable that had a read accepted, and whose client was told that it may read
abbrev pub is_told_reader : List ℕ → Channel → Bool
is_told_reader name c = is_on name c && nat_lt 0 c.reach.count && may_read c.rights_told

abbrev pub is_told_through : List ℕ → Option Channel → Bool
is_told_through name None = false
is_told_through name (Some c) = is_on name c && may_read c.rights_told

-- a subscription to the variable over such a channel
abbrev pub is_told_subscriber : Gateway → List ℕ → ClientSub → Bool
is_told_subscriber w name sub = is_told_through name (channel_of w sub.session sub.sid)
