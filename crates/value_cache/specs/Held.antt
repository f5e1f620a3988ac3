-- What is held of what a variable told last, its value and its properties, and what is told and answered from these.
use Rattle.std.specs.Prelude.{ℕ, List, length, Bool, true, false, not, ◌||◌, ◌&&◌, nat_le, is_some, option_map, unwrap_or, Option, Some, None, Result, Ok, Err}
use Rattle.std.specs.Ordering.{int_eq}
use Rattle.dbr_layout.specs.declared.dbr.Base.{Base}
use Rattle.dbr_layout.specs.declared.fault.LayoutFault.{LayoutFault}
use Rattle.dbr_layout.specs.Conversion.{given_count}
use Rattle.dbr_layout.specs.Converted.{written}
use Rattle.dbr_layout.specs.Dbr.{dbr_of}
use Rattle.dbr_layout.specs.Needs.{needs}
use Rattle.dbr_layout.specs.Properties.{Properties, of_base}
use Rattle.dbr_layout.specs.View.{Shown, shown}

-- what a message shows, and the count that was asked for when it came
pub record Value : Type 0 where
  pub shown : Shown
  pub asked_with : ℕ

-- the value and the properties, each as it was told last
pub record Held : Type 0 where
  pub value : Option Value
  pub properties : Option Properties

abbrev pub nothing : Held
nothing = record { value = None; properties = None }

-- the value that a message leaves, by what it shows: none where it can't be viewed
abbrev pub value_of : Result Shown LayoutFault → ℕ → Option Value
value_of (Ok seen) asked_with = Some (record { shown = seen; asked_with = asked_with })
value_of (Err fault) asked_with = None

-- the properties that a message leaves, by what it shows: none where it tells none, or can't be viewed
abbrev pub properties_in : Result Shown LayoutFault → Option Properties
properties_in (Ok seen) = seen.parts.properties
properties_in (Err fault) = None

-- after a message with a value came; the properties stay
abbrev pub with_value : ℕ → ℕ → List ℕ → ℕ → Held → Held
with_value dtype count payload asked_with held = record held { value = value_of (shown dtype count payload) asked_with }

-- after a message with properties came, whose value isn't looked at; the value stays
abbrev pub with_properties : ℕ → List ℕ → Held → Held
with_properties dtype payload held = record held { properties = properties_in (shown dtype 0 payload) }

abbrev pub without_value : Held → Held
without_value held = record held { value = None }

abbrev pub without_properties : Held → Held
without_properties held = record held { properties = None }

-- what the type with this number tells of a variable of this base needs properties
abbrev pub needs_by : Base → ℕ → Bool
needs_by native dtype = unwrap_or (option_map (needs native) (dbr_of dtype)) false

-- properties of this base are there
abbrev pub are_there : Base → Option Properties → Bool
are_there base properties = is_some (of_base base properties)

abbrev pub covers_by : ℕ → ℕ → Option Properties → Option Value → Bool
covers_by dtype count properties None = false
covers_by dtype count properties (Some value) =
    nat_le count value.asked_with
    && (not (needs_by value.shown.dbr.base dtype) || are_there value.shown.dbr.base properties)

-- what is held covers a type and a count: the count is at most the one that was asked for, and the properties are there
-- where the type needs them
abbrev pub covers : ℕ → ℕ → Held → Bool
covers dtype count held = covers_by dtype count held.properties held.value

abbrev pub alarm_differs_from : Shown → Option Value → Bool
alarm_differs_from new None = true
alarm_differs_from new (Some old) =
    not (int_eq old.shown.parts.status new.parts.status) || not (int_eq old.shown.parts.severity new.parts.severity)

-- the alarm is another than that of the value that is held, or none is held
abbrev pub alarm_differs : Shown → Held → Bool
alarm_differs new held = alarm_differs_from new held.value

-- so many elements with their payload, where it is laid out
abbrev pub laid_out : ℕ → Result (List ℕ) LayoutFault → Option (ℕ × List ℕ)
laid_out count (Ok payload) = Some (count, payload)
laid_out count (Err fault) = None

-- what is given of what is shown, with these properties: how many elements, and their payload
abbrev pub given : ℕ → ℕ → Option Properties → Shown → Option (ℕ × List ℕ)
given dtype count properties seen =
    laid_out (given_count count (length seen.parts.elements)) (written seen properties dtype count)

abbrev pub answer_of : ℕ → ℕ → Option Properties → Option Value → Option (ℕ × List ℕ)
answer_of dtype count properties None = None
answer_of dtype count properties (Some value) = given dtype count properties value.shown

-- what a read is answered, whether or not its count is covered
abbrev pub answer : ℕ → ℕ → Held → Option (ℕ × List ℕ)
answer dtype count held = answer_of dtype count held.properties held.value
