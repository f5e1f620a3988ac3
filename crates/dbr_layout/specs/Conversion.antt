-- Elements of one base as elements of another.
use Rattle.std.specs.Prelude.{ℕ, ◌-◌, ◌==◌, ◌≤◌, if◌then◌else◌, ℤ, pos, List, [], ◌++◌, length, map, take, replicate, Option, Some, None}
use Rattle.std.specs.Fmt.{signed_decimal}
use Rattle.std.specs.Int.{w16, w32, cast_signed, cast_unsigned, to_be_bytes}
use Rattle.byteorder.specs.Endian.{big_number}
use Rattle.dbr_layout.specs.declared.dbr.Base.{Base}
use Rattle.dbr_layout.specs.declared.dbr.Base.TheVariants as base
use Rattle.dbr_layout.specs.declared.conversion.Conversion.{Conversion}
use Rattle.dbr_layout.specs.declared.conversion.Conversion.TheVariants.{Unchanged, CharToShort, ToLong, ToText, ToState}
use Rattle.dbr_layout.specs.declared.conversion.Integer.{Integer}
use Rattle.dbr_layout.specs.declared.conversion.Integer.TheVariants as integer
use Rattle.dbr_layout.specs.Dbr.{element_size}
use Rattle.dbr_layout.specs.Layout.{filled_to}
use Rattle.dbr_layout.specs.Properties.{Properties, no_properties, states_size, zero_properties}
use Rattle.dbr_layout.specs.States.{state_text}

-- how an element of the first base becomes one of the second, where that is served
unfoldable pub conversion_between : Base → Base → Option Conversion
conversion_between base.String base.String = Some Unchanged
conversion_between base.Short base.Short = Some Unchanged
conversion_between base.Short base.Long = Some (ToLong integer.Short)
conversion_between base.Short base.String = Some (ToText integer.Short)
conversion_between base.Float base.Float = Some Unchanged
conversion_between base.Enum base.Enum = Some Unchanged
conversion_between base.Enum base.Long = Some (ToLong integer.Enum)
conversion_between base.Enum base.String = Some ToState
conversion_between base.Char base.Char = Some Unchanged
conversion_between base.Char base.Short = Some CharToShort
conversion_between base.Char base.Long = Some (ToLong integer.Char)
conversion_between base.Char base.String = Some (ToText integer.Char)
conversion_between base.Long base.Long = Some Unchanged
conversion_between base.Long base.String = Some (ToText integer.Long)
conversion_between base.Double base.Double = Some Unchanged
conversion_between _ _ = None

-- the number that an element is, the highest of its bytes first: ENUM and CHAR are unsigned, SHORT and LONG signed
abbrev pub number_in : Integer → List ℕ → ℤ
number_in integer.Short element = cast_signed w16 (big_number 2 element)
number_in integer.Enum element = pos (big_number 2 element)
number_in integer.Char element = pos (big_number 1 element)
number_in integer.Long element = cast_signed w32 (big_number 4 element)

-- the element that a number is in each base: two's complement, the highest byte first
abbrev pub short_of : ℤ → List ℕ
short_of number = to_be_bytes w16 (cast_unsigned w16 number)

abbrev pub long_of : ℤ → List ℕ
long_of number = to_be_bytes w32 (cast_unsigned w32 number)

-- the decimal text, with a minus sign where the number is negative, and zero bytes up to the size of a STRING
abbrev pub text_of : ℤ → List ℕ
text_of number = filled_to (element_size base.String) (signed_decimal number)

-- the bytes that an element becomes; of a variable with these states, where it is one
abbrev pub converted_element : List ℕ → Conversion → List ℕ → List ℕ
converted_element states Unchanged element = element
converted_element states CharToShort element = short_of (number_in integer.Char element)
converted_element states (ToLong from) element = long_of (number_in from element)
converted_element states (ToText from) element = text_of (number_in from element)
converted_element states ToState element = state_text states (big_number 2 element)

-- how many elements a count asks for, of so many: 0 asks for those that are there
abbrev pub given_count : ℕ → ℕ → ℕ
given_count count there = if count == 0 then there else count

-- the first elements, and elements of zero bytes where fewer are there
abbrev pub first_elements : ℕ → ℕ → List (List ℕ) → List (List ℕ)
first_elements size count elements = take count elements ++ replicate (count - length elements) (replicate size 0)

-- the elements in the base `to`, so many of them
abbrev pub given_elements : List ℕ → Base → Conversion → ℕ → List (List ℕ) → List (List ℕ)
given_elements states to how given elements =
    first_elements (element_size to) given (map (converted_element states how) elements)

-- the properties in the base `to`: units and precision stay, limits are converted as elements are. A state has
-- none as a number, and a text tells none
abbrev pub converted_properties : Base → Conversion → Properties → Properties
converted_properties to Unchanged p = record p { base = to }
converted_properties to CharToShort p = record p { base = to; limits = map (converted_element [] CharToShort) p.limits }
converted_properties to (ToLong integer.Enum) p = zero_properties to
converted_properties to (ToLong from) p = record p { base = to; limits = map (converted_element [] (ToLong from)) p.limits }
converted_properties to (ToText from) p = no_properties to
converted_properties to ToState p = no_properties to

-- the base of an integer
abbrev pub base_of : Integer → Base
base_of integer.Short = base.Short
base_of integer.Enum = base.Enum
base_of integer.Char = base.Char
base_of integer.Long = base.Long

-- how many bytes of an element are read as a number
abbrev pub read_size : Conversion → ℕ
read_size Unchanged = 0
read_size CharToShort = element_size base.Char
read_size (ToLong from) = element_size (base_of from)
read_size (ToText from) = element_size (base_of from)
read_size ToState = element_size base.Enum

-- the elements of these properties have as many bytes
abbrev pub ReadsFrom : Conversion → Option Properties → Type 0
ReadsFrom how None = Unit {0}
ReadsFrom how (Some p) = read_size how ≤ element_size p.base

-- how many bytes of the states are read
abbrev pub states_read : Conversion → ℕ
states_read ToState = states_size base.Enum
states_read _ = 0

-- how many bytes an element of so many becomes
abbrev pub converted_size : Conversion → ℕ → ℕ
converted_size Unchanged size = size
converted_size CharToShort size = element_size base.Short
converted_size (ToLong from) size = element_size base.Long
converted_size (ToText from) size = element_size base.String
converted_size ToState size = element_size base.String
