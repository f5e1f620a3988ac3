-- The rows of servers.
use Rattle.std.specs.Prelude.{◌≡◌, ◌≤◌, ℕ, List, Bool, true, not, ◌==◌, IsTrue, length}
use Rattle.std.specs.List.{filter, list_all, list_any}
use Rattle.link_table.specs.declared.links.LinkRow.{LinkRow}
use Rattle.link_table.specs.declared.servers.Server.{Server}

-- the row of this server
abbrev pub is_server : ℕ → Server → Bool
is_server number row = row.number == number

-- the row of another
abbrev pub is_not_server : ℕ → Server → Bool
is_not_server number row = not (is_server number row)

-- with the minor version that the server said
abbrev pub with_minor : ℕ → Server → Server
with_minor minor row = record row { minor = minor }

-- the link's server stands
abbrev pub is_on_one : List Server → LinkRow → Bool
is_on_one servers row = list_any (is_server row.server) servers

-- each link's server stands
abbrev pub HaveServers : List Server → List LinkRow → Type 0
HaveServers servers links = list_all (is_on_one servers) links ≡ true

-- where it is said so, no two servers have the same number
abbrev pub HasNumbersApart : Bool → List Server → Type 0
HasNumbersApart apart servers = IsTrue apart → (number : ℕ) → length (filter (is_server number) servers) ≤ 1
