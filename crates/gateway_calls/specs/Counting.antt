-- How many links a server has.
use Rattle.std.specs.Prelude.{ℕ, filter, length}
use Rattle.gateway_state.specs.Gateway.{Gateway}
use Rattle.link_table.specs.Links.{is_of}

-- the variables for which a channel of this server was asked, and that it still has
abbrev pub link_count_of : Gateway → ℕ → ℕ
link_count_of w server = length (filter (is_of server) w.upstream.links)
