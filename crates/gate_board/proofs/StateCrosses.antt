-- What the gateway knows may go to another thread.
use denote.Param.Send.{IsSend, sendable, view_send}
use denote.Param.SendFields.{declared_send}
use Rattle.std.proofs.Crossing.{crosses}
use Rattle.state_tables.specs.contracts.connections.Connections as connections
use Rattle.state_tables.specs.contracts.cache.Cache as cache
use Rattle.state_tables.specs.contracts.searches.Searches as searches
use Rattle.state_tables.specs.contracts.searches.Searches.TheInside as searches_parts
use Rattle.gateway_state.specs.contracts.search.RememberedSearch as looked
use Rattle.gateway_state.specs.contracts.unanswered.Unanswered as unanswered
use Rattle.state_tables.specs.contracts.kept.KeptSearch as kept
use Rattle.state_tables.specs.contracts.search_lists.SearchLists as search_lists
use Rattle.state_tables.specs.contracts.search_table.SearchTable as search_table
use Rattle.state_tables.specs.contracts.search_table.SearchTable.TheInside as search_table_parts
use Rattle.state_tables.specs.contracts.leads.Leads as leads
use Rattle.gate_board.proofs.PartsCross.{policy_send, outbox_send, cached_send, name_send, name_lists_send}

pub connections_send : IsSend connections.the_row
connections_send = search (sendable, crosses, outbox_send) depth 60 fits 20000

pub cache_send : IsSend cache.the_row
cache_send = search (sendable, crosses, cached_send) depth 60 fits 20000

search_send : IsSend looked.the_row
search_send = search (sendable, crosses, name_send) depth 60 fits 20000

kept_send : IsSend kept.the_row
kept_send = search (sendable, crosses, name_send, search_send) depth 60 fits 20000

search_lists_send : IsSend search_lists.the_row
search_lists_send = search (sendable, crosses, name_lists_send) depth 60 fits 20000

search_table_parts_send : IsSend search_table_parts.the_row
search_table_parts_send = declared_send search_table_parts.the_type
    (search (sendable, crosses, kept_send) depth 60 fits 20000, (search_lists_send, (search (sendable, crosses) depth 20, (search (sendable, crosses) depth 20, tt))))

search_table_send : IsSend search_table.the_row
search_table_send = search (view_send, search_table_parts_send) depth 5

leads_send : IsSend leads.the_row
leads_send = search (sendable, crosses, name_send) depth 60 fits 20000

searches_parts_send : IsSend searches_parts.the_row
searches_parts_send = declared_send searches_parts.the_type
    (policy_send, (search_table_send, (leads_send, tt)))

pub searches_send : IsSend searches.the_row
searches_send = search (view_send, searches_parts_send) depth 5

pub unanswered_send : IsSend unanswered.the_row
unanswered_send = search (sendable, crosses, name_send) depth 60 fits 20000
