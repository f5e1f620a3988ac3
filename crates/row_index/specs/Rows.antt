-- Rows in the order of adding, each with the key under which it is found.
use Rattle.std.specs.Prelude.{◌≡◌, ℕ, List, [], ◌∷◌, Bool, not, ◌&&◌, ◌==◌, Option, None}
use Rattle.std.specs.List.{find, list_any}
use Rattle.std.specs.Option.{option_map}
use Rattle.rows.specs.Rows.{change_first}
use Rattle.row_index.specs.declared.key.Key.{Key}

-- the keys are equal
abbrev pub same_key : Key → Key → Bool
same_key a b = a.owner == b.owner && a.id == b.id

module _ {V : Type 0} where
  -- the value of an entry
  abbrev pub row_of : Key × V → V
  row_of entry = entry.1

  -- its ID at its owner
  abbrev pub id_of : Key × V → ℕ
  id_of entry = entry.0.id

  -- the entry of this key
  abbrev pub has_key : Key → Key × V → Bool
  has_key key entry = same_key entry.0 key

  -- another
  abbrev pub lacks_key : Key → Key × V → Bool
  lacks_key key entry = not (has_key key entry)

  -- an entry of one of these keys
  abbrev pub has_one_of : List Key → Key × V → Bool
  has_one_of keys entry = list_any (λ key. same_key entry.0 key) keys

  -- an entry of this owner
  abbrev pub is_owned_by : ℕ → Key × V → Bool
  is_owned_by owner entry = entry.0.owner == owner

  -- the entry with this value
  abbrev pub with_row : V → Key × V → Key × V
  with_row value entry = (entry.0, value)

  -- the value under a key, if there is one
  abbrev pub value_at : Key → List (Key × V) → Option V
  value_at key entries = option_map row_of (find (has_key key) entries)

  -- the entries with this value under the key; the same entries where none has it
  abbrev pub put_at : Key → List (Key × V) → V → List (Key × V)
  put_at key entries value = change_first (has_key key) (with_row value) entries

  -- no two entries have the same key
  abbrev pub HasKeysApart : List (Key × V) → Type 0
  HasKeysApart [] = Unit {0}
  HasKeysApart (entry ∷ later) = (value_at entry.0 later ≡ None) × HasKeysApart later
