-- Rows of channels.
use Rattle.std.specs.Prelude.{ℕ, List, length, Bool, false, not, ◌&&◌, ◌==◌, bytes_eq, Option, Some, None}
use Rattle.std.specs.List.{filter, list_any, sum_by}
use Rattle.named_rows.specs.declared.channels.Channel.{Channel}
use Rattle.named_rows.specs.declared.channels.Reach.{Reach}

-- the session's channel of this ID
abbrev pub is_channel : ℕ → ℕ → Channel → Bool
is_channel session sid channel = channel.session == session && channel.sid == sid

-- another
abbrev pub is_not_channel : ℕ → ℕ → Channel → Bool
is_not_channel session sid channel = not (is_channel session sid channel)

-- a channel of the session
abbrev pub is_channel_of : ℕ → Channel → Bool
is_channel_of session channel = channel.session == session

-- a channel of another
abbrev pub is_not_channel_of : ℕ → Channel → Bool
is_not_channel_of session channel = not (is_channel_of session channel)

-- the channel with its reach and the rights last told
abbrev pub with_reach_and_rights : Reach → ℕ → Channel → Channel
with_reach_and_rights reach rights channel = record channel { reach = reach; rights_told = rights }

-- a channel on this real name
abbrev pub is_on : List ℕ → Channel → Bool
is_on name channel = bytes_eq channel.real name

-- the same of what was looked up: where no channel stands, none is on it
abbrev pub is_channel_on : List ℕ → Option Channel → Bool
is_channel_on name None = false
is_channel_on name (Some channel) = is_on name channel

-- a channel on one of these real names
abbrev pub is_on_any : List (List ℕ) → Channel → Bool
is_on_any names channel = list_any (λ name. bytes_eq name channel.real) names

-- how many channels are on each of these real names, together
abbrev pub count_on_each : List (List ℕ) → List Channel → ℕ
count_on_each names channels = sum_by (λ name. length (filter (is_on name) channels)) names
