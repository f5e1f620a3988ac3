-- How waiting writes are found: the key of each, and the keys of each session's.
use Rattle.std.specs.Prelude.{◌≡◌, ℕ, List, Bool, false, map}
use Rattle.std.specs.List.{filter}
use Rattle.std.specs.Option.{option_map, unwrap_or}
use Rattle.row_index.specs.declared.key.Key.{Key}
use Rattle.row_index.specs.Lists.{of_owner}
use Rattle.row_index.specs.Rows.{row_of, value_at, HasKeysApart}
use Rattle.link_table.specs.declared.writes.WaitingWrite.{WaitingWrite}
use Rattle.link_table.specs.Keyed.{entry_by}
use Rattle.link_table.specs.LinkIndex.{key}
use Rattle.link_table.specs.Writes.{is_write_of}

-- the key of a write: its server and its ID there
abbrev pub write_key : WaitingWrite → Key
write_key row = key row.server row.id

-- a write stands under the key, and passes
abbrev pub leads_to : (WaitingWrite → Bool) → List (Key × WaitingWrite) → Key → Bool
leads_to p writes k = unwrap_or (option_map p (value_at k writes)) false

-- each write stands under its key, and each session has the keys of its writes
pub record AreListed (writes : List (Key × WaitingWrite)) (sessions : List (ℕ × List Key)) : Type 0 where
  pub apart : HasKeysApart writes
  pub keyed : writes ≡ map (entry_by write_key) (map row_of writes)
  pub listed : (session : ℕ) → of_owner sessions session ≡ map write_key (filter (is_write_of session) (map row_of writes))
