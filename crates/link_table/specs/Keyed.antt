-- Rows, each under a key that it says itself.
use Rattle.std.specs.Prelude.{ℕ, Bool, not, ◌==◌}
use Rattle.row_index.specs.declared.key.Key.{Key}
use Rattle.row_index.specs.Rows.{same_key}

module _ {A : Type 0} (key_of : A → Key) where
  -- a row under its key
  abbrev pub entry_by : A → Key × A
  entry_by row = (key_of row, row)

  -- the row of this key
  abbrev pub is_at : Key → A → Bool
  is_at k row = same_key (key_of row) k

  -- another row
  abbrev pub is_not_at : Key → A → Bool
  is_not_at k row = not (is_at k row)

  -- a row of this owner
  abbrev pub is_owners : ℕ → A → Bool
  is_owners owner row = (key_of row).owner == owner

  -- a row of another
  abbrev pub is_not_owners : ℕ → A → Bool
  is_not_owners owner row = not (is_owners owner row)
