-- How many rows a variable has, and how many rows of clients are looked at.
use Rattle.std.specs.Prelude.{◌≤◌, ⊤, ℕ, ◌+◌, Bool, List, length, filter, Option, Some, None}
use Rattle.named_rows.specs.declared.subs.ClientSub.{ClientSub}
use Rattle.named_rows.specs.Subs.{is_sub_of}
use Rattle.link_table.specs.declared.links.LinkRow.{LinkRow}
use Rattle.gateway_state.specs.Gateway.{Gateway}
use Rattle.gateway_state.specs.Servers.{waits_for}
use Rattle.gateway_state.specs.Updates.{is_sub_to}
use Rattle.named_rows.specs.Channels.{is_on}

-- how many channels are on it
abbrev pub channels_on : Gateway → List ℕ → ℕ
channels_on w name = length (filter (is_on name) w.clients.channels)

-- how many subscriptions are to it
abbrev pub subs_on : Gateway → List ℕ → ℕ
subs_on w name = length (filter (is_sub_to w name) w.clients.subs)

-- how many reads wait for it
abbrev pub reads_on : Gateway → List ℕ → ℕ
reads_on w name = length (filter (waits_for w name) w.clients.reads)

-- an update is owed
abbrev pub is_owed : ClientSub → Bool
is_owed sub = sub.owed

-- the subscriptions of a session that are owed an update
abbrev pub owed_of : Gateway → ℕ → List ClientSub
owed_of w session = filter is_owed (filter (is_sub_of session) w.clients.subs)

-- all rows of a variable
abbrev pub own : Gateway → List ℕ → ℕ
own w name = channels_on w name + subs_on w name + reads_on w name

-- all rows of a link's variable, none where there is no link
abbrev pub own_over : Gateway → Option LinkRow → ℕ
own_over w None = 0
own_over w (Some link) = own w link.name

-- at most so many more rows were looked at than before; nothing is said where there is no bound
abbrev pub IsWithin : Option ℕ → ℕ → ℕ → Type 0
IsWithin None before after = ⊤
IsWithin (Some looks) before after = after ≤ before + looks
