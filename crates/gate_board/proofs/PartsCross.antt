-- What the gateway's tables, messages and rules hold may go to another thread.
use denote.Param.Send.{IsSend, sendable, view_send}
use denote.Param.SendFields.{declared_send}
use Rattle.std.proofs.Crossing.{crosses, send}
use Rattle.bytes.proofs.Crosses as shared
use Rattle.bytes.proofs.block.Seen.TheSendSync as seen
use Rattle.value_cache.specs.contracts.cached.Cached as cached
use Rattle.fanout.specs.contracts.outbox.Outbox as outbox
use Rattle.fanout.specs.contracts.outbox.Out as out
use Rattle.pv_name.specs.contracts.name.Name as name
use Rattle.row_index.specs.contracts.apart_keys.ApartKeys as apart_keys
use Rattle.row_index.specs.contracts.name_keys.NameKeys as name_keys
use Rattle.row_index.specs.contracts.name_lists.NameLists as name_lists
use Rattle.row_index.specs.contracts.tall_keys.TallKeys as tall_keys
use Rattle.channel_table.specs.contracts.sessions.Sessions as sessions
use Rattle.named_rows.specs.contracts.channels.Channels as channels
use Rattle.named_rows.specs.contracts.subs.Subs as subs
use Rattle.named_rows.specs.contracts.demand.Demand as demand
use Rattle.named_rows.specs.contracts.reads.Reads as reads
use Rattle.channel_table.specs.contracts.table.Table as table
use Rattle.link_table.specs.contracts.link_set.LinkSet as link_set
use Rattle.link_table.specs.contracts.sub_leads.SubLeads as sub_leads
use Rattle.link_table.specs.contracts.writes.Writes as writes
use Rattle.link_table.specs.contracts.table.Links as links
use Rattle.pvlist.specs.contracts.rules.Rules as rules
use Rattle.pvlist.specs.contracts.groups.Groups as groups
use Rattle.pvlist.specs.contracts.pattern.Pattern as pattern
use Rattle.pvlist.specs.contracts.pattern.Pattern.TheInside as pattern_parts
use Rattle.pvlist.specs.contracts.row.Row as row
use Rattle.pvlist.specs.contracts.row.Verb as verb
use Rattle.pvlist.specs.contracts.clues.Clues as clues
use Rattle.access_file.specs.contracts.access.Access as access
use Rattle.access_file.specs.contracts.host_names.HostNames as host_names
use Rattle.access_file.specs.contracts.names.ListedNames as listed_names
use Rattle.access_file.specs.contracts.rule.GroupRules as group_rules
use Rattle.rule_desk.specs.contracts.policy.BoxedAccess as boxed_access
use Rattle.rule_desk.specs.contracts.policy.Policy as policy
use Rattle.gate_board.proofs.PatternsCross.{regex_send}

pub ruleset bytes_cross = (crosses, send, seen.the_send, shared.block-send, shared.block-sync)

pub out_send : IsSend out.the_row
out_send = search (sendable, bytes_cross) depth 40 fits 5000

pub outbox_send : IsSend outbox.the_row
outbox_send = search (sendable, crosses, out_send) depth 40 fits 5000

pub cached_send : IsSend cached.the_row
cached_send = search (sendable, bytes_cross) depth 40 fits 5000

pub name_send : IsSend name.the_row
name_send = search (sendable, crosses) depth 40 fits 5000

pub name_lists_send : IsSend name_lists.the_row
name_lists_send = search (sendable, crosses, name_send) depth 60 fits 20000

tall_keys_send : IsSend tall_keys.the_row
tall_keys_send = search (sendable, crosses) depth 60 fits 20000

apart_keys_send : IsSend apart_keys.the_row
apart_keys_send = search (sendable, crosses, tall_keys_send) depth 60 fits 20000

name_keys_send : IsSend name_keys.the_row
name_keys_send = search (sendable, crosses, name_send, apart_keys_send) depth 60 fits 20000

sessions_send : IsSend sessions.the_row
sessions_send = search (sendable, crosses, name_send) depth 60 fits 20000

channels_send : IsSend channels.the_row
channels_send = search (sendable, crosses, name_send, name_keys_send) depth 60 fits 20000

subs_send : IsSend subs.the_row
subs_send = search (sendable, crosses, name_send, name_keys_send) depth 60 fits 20000

demand_send : IsSend demand.the_row
demand_send = search (sendable, crosses, name_send) depth 60 fits 20000

reads_send : IsSend reads.the_row
reads_send = search (sendable, crosses, name_send, name_keys_send) depth 60 fits 20000

pub table_send : IsSend table.the_row
table_send = search (sendable, crosses, sessions_send, channels_send, subs_send, demand_send, reads_send) depth 60 fits 20000

sub_leads_send : IsSend sub_leads.the_row
sub_leads_send = search (sendable, crosses) depth 60 fits 20000

link_set_send : IsSend link_set.the_row
link_set_send = search (sendable, crosses, name_send, name_lists_send, sub_leads_send) depth 60 fits 20000

writes_send : IsSend writes.the_row
writes_send = search (sendable, crosses) depth 60 fits 20000

pub links_send : IsSend links.the_row
links_send = search (sendable, crosses, link_set_send, writes_send) depth 60 fits 20000

groups_send : IsSend groups.the_row
groups_send = search (sendable, crosses) depth 60 fits 20000

verb_send : IsSend verb.the_row
verb_send = search (sendable, crosses) depth 60 fits 20000

clues_send : IsSend clues.the_row
clues_send = search (sendable, crosses) depth 60 fits 20000

pattern_parts_send : IsSend pattern_parts.the_row
pattern_parts_send = declared_send pattern_parts.the_type (regex_send, (clues_send, tt))

pattern_send : IsSend pattern.the_row
pattern_send = search (view_send, pattern_parts_send) depth 5

row_send : IsSend row.the_row
row_send = declared_send row.the_type (pattern_send, (verb_send, tt))

rules_send : IsSend rules.the_row
rules_send = search (sendable, crosses, row_send) depth 60 fits 20000

listed_names_send : IsSend listed_names.the_row
listed_names_send = search (sendable, crosses) depth 60 fits 20000

group_rules_send : IsSend group_rules.the_row
group_rules_send = search (sendable, crosses, listed_names_send) depth 60 fits 20000

access_send : IsSend access.the_row
access_send = search (sendable, crosses, listed_names_send, group_rules_send) depth 60 fits 20000

boxed_access_send : IsSend boxed_access.the_row
boxed_access_send = search (sendable, crosses, access_send) depth 60 fits 20000

host_names_send : IsSend host_names.the_row
host_names_send = search (sendable, crosses) depth 60 fits 20000

pub policy_send : IsSend policy.the_row
policy_send = search (sendable, crosses, rules_send, groups_send, boxed_access_send, host_names_send) depth 60 fits 20000
