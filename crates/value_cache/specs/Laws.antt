-- Laws of what is held.
use Rattle.std.specs.Prelude.{◌≡◌, ℕ, ◌<◌, true, List, ◌++◌, slice_index, Some, Ok}
use Rattle.dbr_layout.specs.Converted.{written}
use Rattle.dbr_layout.specs.Needs.{needs}
use Rattle.dbr_layout.specs.View.{Shown, shown}
use Rattle.value_cache.specs.Held.{Held, answer, with_value}

-- after a message came, a read of count 0 under the message's own type is answered with as many elements as it has, and
-- with a payload that shows what the message showed, whatever bytes follow; where that type is laid out, and where the
-- properties that it needs are held as the message itself has them
abbrev pub GivesBack : Type 0
GivesBack =
    (dtype count asked_with : ℕ) (message payload rest : List ℕ) (seen : Shown) (held : Held)
    → ((i : ℕ) → slice_index message i < 256)
    → shown dtype count message ≡ Ok seen
    → (needs seen.dbr.base seen.dbr ≡ true → held.properties ≡ seen.parts.properties)
    → written seen held.properties dtype 0 ≡ Ok payload
    → (answer dtype 0 (with_value dtype count message asked_with held) ≡ Some (count, payload))
    × (shown dtype count (payload ++ rest) ≡ Ok seen)
