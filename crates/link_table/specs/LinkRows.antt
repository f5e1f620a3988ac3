-- The value of the table of servers and links.
use Rattle.std.specs.Prelude.{ℕ, List, Bool}
use Rattle.std.specs.List.{list_any, count_by}
use Rattle.link_table.specs.declared.links.LinkRow.{LinkRow}
use Rattle.link_table.specs.declared.servers.Server.{Server}
use Rattle.link_table.specs.declared.writes.WaitingWrite.{WaitingWrite}
use Rattle.link_table.specs.Links.{is_link}
use Rattle.link_table.specs.Servers.{is_server}
use Rattle.link_table.specs.Writes.{is_write_of}

-- whether each counter went past the last number, and began again at the first
pub record Again : Type 0 where
  pub sid : Bool
  pub cid : Bool
  pub subscription : Bool
  pub write : Bool

-- the next number of each counter
pub record Counters : Type 0 where
  pub sid : ℕ
  pub cid : ℕ
  pub subscription : ℕ
  pub write : ℕ
  pub again : Again

-- the rows, each list in the order in which they were added, and the numbers
pub record LinkRows : Type 0 where
  pub servers : List Server
  pub links : List LinkRow
  pub writes : List WaitingWrite
  pub counters : Counters

-- whether the server stands
abbrev pub has_server : ℕ → LinkRows → Bool
has_server number rows = list_any (is_server number) rows.servers

-- whether the link of this server with this ID stands
abbrev pub has_link : ℕ → ℕ → LinkRows → Bool
has_link server cid rows = list_any (is_link server cid) rows.links

-- how many writes of the session wait
abbrev pub write_count : ℕ → LinkRows → ℕ
write_count session rows = count_by (is_write_of session) rows.writes
