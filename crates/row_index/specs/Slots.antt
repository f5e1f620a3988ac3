-- Slots, each with a row or empty, and the places where rows stand.
use Rattle.std.specs.Prelude.{slice_get, filter_map, ◌≡◌, ◌+◌, ◌*◌, ◌≤◌, ℕ, suc, List, [], ◌∷◌, length, Bool, true, false, Option, Some, None, if◌then◌else◌}
use Rattle.std.specs.Map.{lookup}
use Rattle.std.specs.Option.{option_and_then, option_map}
use Rattle.row_index.specs.declared.key.Key.{Key}
use Rattle.row_index.specs.declared.slot.Slot.{Slot}
use Rattle.row_index.specs.declared.slot.Slot.TheVariants.{Empty, Full}
use Rattle.row_index.specs.Rows.{same_key, HasKeysApart}

module _ {V : Type 0} where
  -- the slot has the row of this key
  abbrev pub slot_has_key : Key → Slot V → Bool
  slot_has_key key Empty = false
  slot_has_key key (Full k value) = same_key k key

  -- the slot has a row
  abbrev pub is_full : Slot V → Bool
  is_full Empty = false
  is_full (Full k value) = true

  -- the value of the slot, if there is one
  abbrev pub value_in : Slot V → Option V
  value_in Empty = None
  value_in (Full k value) = Some value

  -- the slot with another value
  abbrev pub with_value : Slot V → V → Slot V
  with_value Empty w = Empty
  with_value (Full k value) w = Full k w

  -- the rows of the slots that have one, in their order
  abbrev pub filled : List (Slot V) → List (Key × V)
  filled [] = []
  filled (Empty ∷ slots) = filled slots
  filled (Full k value ∷ slots) = (k, value) ∷ filled slots

  -- where the row of this key stands, counted from 0
  abbrev pub place_of : Key → List (Slot V) → Option ℕ
  place_of key [] = None
  place_of key (slot ∷ slots) = if slot_has_key key slot then Some 0 else option_map suc (place_of key slots)

  -- the same, asked of the slots
  abbrev pub place_in : List (Slot V) → Key → Option ℕ
  place_in slots key = place_of key slots

  -- where the rows of these keys stand, in the order of the keys
  abbrev pub places_of : List Key → List (Slot V) → List ℕ
  places_of keys slots = filter_map (place_in slots) keys

  -- the value at a place, if a row stands there
  abbrev pub value_there : List (Slot V) → ℕ → Option V
  value_there slots place = option_and_then value_in (slice_get slots place)

  -- each key has the place of its row, and rows have keys of their own
  pub record Agrees (slots : List (Slot V)) (places : List (Key × ℕ)) : Type 0 where
    pub found : (key : Key) → lookup (same_key key) places ≡ place_of key slots
    pub count : length places ≡ length (filled slots)
    pub apart : HasKeysApart (filled slots)

  -- the same, and slots are at most twice as many as rows, and one; and so many spots for hints are at most four for each
  -- slot, and 16
  pub record IsBounded (slots : List (Slot V)) (places : List (Key × ℕ)) (spots : ℕ) : Type 0 where
    pub agrees : Agrees slots places
    pub few : length slots ≤ 2 * length (filled slots) + 1
    pub spare : spots ≤ 4 * length slots + 16
