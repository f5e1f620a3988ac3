-- What messages that are kept as they came mean.
use Rattle.std.specs.Prelude.{◌≡◌, ℕ, true, List, map, is_some, Option, Some, None, IsOk}
use Rattle.dbr_layout.specs.Properties.{Properties}
use Rattle.dbr_layout.specs.View.{shown}
use Rattle.value_cache.specs.declared.cached.Described.{Described}
use Rattle.value_cache.specs.declared.cached.HeldMessage.{HeldMessage}
use Rattle.value_cache.specs.declared.encodings.Encoding.{Encoding}
use Rattle.value_cache.specs.Encodings.{AreAnswers, pair_of}
use Rattle.value_cache.specs.Held.{Held, Value, properties_in, value_of}
use Rattle.value_cache.specs.Kept.{Keeping}

-- the value in the message that is kept
abbrev pub value_in : Option HeldMessage → Option Value
value_in None = None
value_in (Some m) = value_of (shown m.dtype m.count m.payload) m.asked_with

-- the properties in the one that tells them
abbrev pub told_in : Option Described → Option Properties
told_in None = None
told_in (Some d) = properties_in (shown d.dtype 0 d.payload)

-- what is held where these are kept
abbrev pub held_in : Option HeldMessage → Option Described → Held
held_in last described = record { value = value_in last; properties = told_in described }

-- what is kept can be viewed
abbrev pub IsReadable : Option HeldMessage → Type 0
IsReadable None = Unit {0}
IsReadable (Some m) = IsOk (shown m.dtype m.count m.payload)

-- the bytes tell properties of a variable, in the type with this number
abbrev pub TellsProperties : ℕ → List ℕ → Type 0
TellsProperties dtype payload = is_some (properties_in (shown dtype 0 payload)) ≡ true

abbrev pub IsDescription : Option Described → Type 0
IsDescription None = Unit {0}
IsDescription (Some d) = TellsProperties d.dtype d.payload

-- with these encodings beside them
abbrev pub keeping_in : Option HeldMessage → Option Described → List Encoding → Keeping
keeping_in last described kept = record { held = held_in last described; kept = map pair_of kept }

-- and the encodings are their own
pub record IsSound (last : Option HeldMessage) (described : Option Described) (kept : List Encoding) : Type 0 where
  pub readable : IsReadable last
  pub told : IsDescription described
  pub answers : AreAnswers (held_in last described) kept
