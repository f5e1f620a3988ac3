-- Links by their IDs.
use Rattle.std.specs.Prelude.{ℕ}
use Rattle.gateway_rows.specs.declared.age.LinkId.{LinkId}
use Rattle.gateway_state.specs.Gateway.{Gateway}
use Rattle.gateway_state.specs.Servers.{without_link}
use Rattle.link_table.specs.declared.links.LinkRow.{LinkRow}

abbrev pub link_id : LinkRow → LinkId
link_id link = record { server = link.server; cid = link.cid }

-- without the link of this ID and its last messages
abbrev pub without_link_of : Gateway → LinkId → Gateway
without_link_of w id = without_link id.server id.cid w
