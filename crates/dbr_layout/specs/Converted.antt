-- What is shown under one type, laid out under another.
use Rattle.std.specs.Prelude.{ℕ, List, [], length, nat_le, if◌then◌else◌, ok_or, option_map, Option, Some, None, Result, Ok, Err}
use Rattle.dbr_layout.specs.declared.conversion.Conversion.{Conversion}
use Rattle.dbr_layout.specs.declared.dbr.Base.{Base}
use Rattle.dbr_layout.specs.declared.dbr.Dbr.{Dbr}
use Rattle.dbr_layout.specs.declared.dbr.TheConstants.{MAX_PAYLOAD}
use Rattle.dbr_layout.specs.declared.fault.LayoutFault.{LayoutFault}
use Rattle.dbr_layout.specs.declared.fault.LayoutFault.TheVariants.{BadType, NoProperties, TooLarge}
use Rattle.dbr_layout.specs.Conversion.{conversion_between, converted_properties, given_count, given_elements}
use Rattle.dbr_layout.specs.Dbr.{dbr_of, payload_size}
use Rattle.dbr_layout.specs.Fault.{◌>>=◌}
use Rattle.dbr_layout.specs.Layout.{layout}
use Rattle.dbr_layout.specs.Needs.{needs}
use Rattle.dbr_layout.specs.Parts.{Parts}
use Rattle.dbr_layout.specs.Properties.{Properties, of_base}
use Rattle.dbr_layout.specs.View.{Shown}

abbrev pub found_in : Option Properties → Result (Option Properties) LayoutFault
found_in None = Err NoProperties
found_in (Some p) = Ok (Some p)

-- the properties that an asked type needs of a variable of this base, out of those that are given; those of another
-- base are none, and what isn't needed isn't looked at
abbrev pub used : Base → Dbr → Option Properties → Result (Option Properties) LayoutFault
used native asked given =
    if needs native asked then found_in (of_base native given) else Ok None

-- the texts of states in these
abbrev pub states_in : Option Properties → List ℕ
states_in None = []
states_in (Some p) = p.states

-- what is shown, as so many elements of an asked type
abbrev pub converted_parts : Shown → Dbr → Conversion → Option Properties → ℕ → Parts
converted_parts shown asked how properties given = record shown.parts {
  properties = option_map (converted_properties asked.base how) properties;
  elements = given_elements (states_in properties) asked.base how given shown.parts.elements;
}

-- the payload that a count of elements of the type with this number has, of what is shown and of these properties
abbrev pub written : Shown → Option Properties → ℕ → ℕ → Result (List ℕ) LayoutFault
written shown given dtype count = do
  asked ← ok_or (dbr_of dtype) BadType
  how ← ok_or (conversion_between shown.dbr.base asked.base) BadType
  properties ← used shown.dbr.base asked given
  let parts : Parts = converted_parts shown asked how properties (given_count count (length shown.parts.elements))
  if nat_le (payload_size asked (length parts.elements)) MAX_PAYLOAD then Ok (layout asked parts) else Err TooLarge
