-- What clients may do with their channels.
-- (that rights let a client read is said where it is counted)
pub use Rattle.named_rows.specs.Demand.{may_read}
use Rattle.std.specs.Prelude.{ℕ, List, Bool, false, ◌&&◌, bit_and, Option, Some, None}
use Rattle.std.specs.List.{find}
use Rattle.named_rows.specs.declared.channels.Channel.{Channel}
use Rattle.channel_table.specs.declared.sessions.Session.{Session}
use Rattle.named_rows.specs.Channels.{is_channel}
use Rattle.channel_table.specs.Sessions.{is_numbered}
use Rattle.link_table.specs.declared.links.LinkRow.{LinkRow}
use Rattle.pv_alias.specs.declared.lead.Lead.{Lead}
use Rattle.rule_desk.specs.declared.policy.Policy.{Policy}
use Rattle.rule_desk.specs.Granting.{led}
use Rattle.rule_desk.specs.Policy.{counts_as}
use Rattle.gateway_state.specs.Gateway.{Gateway}
use Rattle.gateway_state.specs.Resolution.{is_real, lead_of, rights_left}
use Rattle.gateway_state.specs.Variables.{link_of, is_connected}

-- what is asked from a session's host, with what the policy grants its user there
abbrev pub lead_for : Policy → List ℕ → Option Session → Option Lead
lead_for policy name None = None
lead_for policy name (Some row) = led policy.access row.user (counts_as policy row.host) (lead_of policy row.host name)

-- where the name leads that a session asks for, from its host, and what its user may do there; nothing where it is refused
abbrev pub lead_in : Gateway → ℕ → List ℕ → Option Lead
lead_in w number name = lead_for w.policy name (find (is_numbered number) w.clients.sessions)

abbrev pub link_rights : Option LinkRow → ℕ
link_rights None = 0
link_rights (Some link) = link.rights

-- the rights of a channel: those of its link that the policy leaves to its session
abbrev pub rights_of : Gateway → Channel → ℕ
rights_of w c = bit_and (link_rights (link_of w c.real)) (rights_left w.policy (lead_in w c.session c.asked))

abbrev pub link_connected : Option LinkRow → Bool
link_connected None = false
link_connected (Some link) = is_connected link.state

-- a channel is served: its name still leads to its real name, whose link is connected
abbrev pub is_served : Gateway → Channel → Bool
is_served w c =
    is_real (lead_in w c.session c.asked) c.real && link_connected (link_of w c.real)

-- a session's channel
abbrev pub channel_of : Gateway → ℕ → ℕ → Option Channel
channel_of w session sid = find (is_channel session sid) w.clients.channels

abbrev pub rights_in : Gateway → Option Channel → Option ℕ
rights_in w None = None
rights_in w (Some c) = Some (rights_of w c)

-- what a client may do with a channel, nothing where it has no such channel
abbrev pub rights_asked : Gateway → ℕ → ℕ → Option ℕ
rights_asked w session sid = rights_in w (channel_of w session sid)

abbrev pub is_connected_over : Gateway → Option Lead → Bool
is_connected_over w None = false
is_connected_over w (Some lead) = link_connected (link_of w lead.real)

-- the name that a host searches for leads to a variable whose link is connected
abbrev pub is_found : Gateway → List ℕ → List ℕ → Bool
is_found w host name = is_connected_over w (lead_of w.policy host name)
