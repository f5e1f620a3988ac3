-- The definitions, computed on values from outside.
use Rattle.std.proofs.Common.{◌≡◌, ℕ, pos, List, [], ◌∷◌, ◌++◌, Option, Some, None, replicate, Ok, Err, refl, lit<}
use Rattle.std.specs.Prelude.{Result, codes}
use Rattle.std.specs.Fmt.{digits, signed_decimal}
use Rattle.dbr_layout.specs.declared.conversion.Conversion.TheVariants.{Unchanged}
use Rattle.dbr_layout.specs.declared.conversion.Integer.TheVariants as integer
use Rattle.dbr_layout.specs.declared.dbr.Base.TheVariants as base
use Rattle.dbr_layout.specs.declared.dbr.Dbr.{Dbr}
use Rattle.dbr_layout.specs.declared.dbr.Form.TheVariants as form
use Rattle.dbr_layout.specs.declared.fault.LayoutFault.TheVariants.{BadType, NoProperties, Short, TooLarge}
use Rattle.dbr_layout.specs.declared.fault.LayoutFault.{LayoutFault}
use Rattle.dbr_layout.specs.Conversion.{conversion_between, long_of, number_in, short_of, text_of}
use Rattle.dbr_layout.specs.Converted.{written}
use Rattle.dbr_layout.specs.Dbr.{dbr_of, payload_size}
use Rattle.dbr_layout.specs.Layout.{layout}
use Rattle.dbr_layout.specs.Parts.{Parts}
use Rattle.dbr_layout.specs.Properties.{Properties, properties_of}
use Rattle.dbr_layout.specs.States.{state_text}
use Rattle.dbr_layout.specs.View.{Shown, shown}
use Rattle.dbr_layout.proofs.Written.{too_large_of}

abbrev time_long : Dbr
time_long = record { base = base.Long; form = form.Time }

abbrev ctrl_long : Dbr
ctrl_long = record { base = base.Long; form = form.Ctrl }

abbrev time_char : Dbr
time_char = record { base = base.Char; form = form.Time }

abbrev string : Dbr
string = record { base = base.String; form = form.Plain }

abbrev forty_two : Parts
forty_two = record {
  status = pos 0;
  severity = pos 0;
  stamp = record { seconds = 1000000000; nanoseconds = 0 };
  properties = None;
  elements = (0 ∷ 0 ∷ 0 ∷ 42 ∷ []) ∷ [];
}

abbrev alarmed : List (List ℕ) → Parts
alarmed elements = record {
  status = pos 1;
  severity = pos 2;
  stamp = record { seconds = 1000000000; nanoseconds = 5 };
  properties = None;
  elements = elements;
}

-- a LONG of 42 with its time stamp, as a server sends it
abbrev update : List ℕ
update = 0 ∷ 0 ∷ 0 ∷ 0 ∷ 59 ∷ 154 ∷ 202 ∷ 0 ∷ 0 ∷ 0 ∷ 0 ∷ 0 ∷ 0 ∷ 0 ∷ 0 ∷ 42 ∷ []

time_long_layout : layout time_long forty_two ≡ update
time_long_layout = refl

update_shown : shown 19 1 update ≡ Ok (record { dbr = time_long; parts = forty_two })
unfolding dbr_of
update_shown = refl

update_short : shown 19 2 update ≡ Err Short
unfolding dbr_of
update_short = refl

first_unserved : shown 35 0 update ≡ Err BadType
unfolding dbr_of
first_unserved = refl

double_short : shown 20 1 update ≡ Err Short
unfolding dbr_of
double_short = refl

read_as_long : written (record { dbr = time_long; parts = forty_two }) None 5 1 ≡ Ok (0 ∷ 0 ∷ 0 ∷ 42 ∷ 0 ∷ 0 ∷ 0 ∷ 0 ∷ [])
unfolding dbr_of conversion_between
read_as_long = refl

-- two more elements than are there
read_beyond : written (record { dbr = time_long; parts = forty_two }) None 5 3 ≡ Ok (0 ∷ 0 ∷ 0 ∷ 42 ∷ 0 ∷ 0 ∷ 0 ∷ 0 ∷ 0 ∷ 0 ∷ 0 ∷ 0 ∷ 0 ∷ 0 ∷ 0 ∷ 0 ∷ [])
unfolding dbr_of conversion_between
read_beyond = refl

-- CHARs of 1, 2 and 3 with an alarm and a time stamp
abbrev chars : Shown
chars = record { dbr = time_char; parts = alarmed ((1 ∷ []) ∷ (2 ∷ []) ∷ (3 ∷ []) ∷ []) }

time_char_layout : written chars None 18 0 ≡ Ok (0 ∷ 1 ∷ 0 ∷ 2 ∷ 59 ∷ 154 ∷ 202 ∷ 0 ∷ 0 ∷ 0 ∷ 0 ∷ 5 ∷ 0 ∷ 0 ∷ 0 ∷ 1 ∷ 2 ∷ 3 ∷ 0 ∷ 0 ∷ 0 ∷ 0 ∷ 0 ∷ 0 ∷ [])
unfolding dbr_of conversion_between
time_char_layout = refl

time_short_layout : written chars None 15 0 ≡ Ok (0 ∷ 1 ∷ 0 ∷ 2 ∷ 59 ∷ 154 ∷ 202 ∷ 0 ∷ 0 ∷ 0 ∷ 0 ∷ 5 ∷ 0 ∷ 0 ∷ 0 ∷ 1 ∷ 0 ∷ 2 ∷ 0 ∷ 3 ∷ 0 ∷ 0 ∷ 0 ∷ 0 ∷ [])
unfolding dbr_of conversion_between
time_short_layout = refl

sts_char_layout : written chars None 11 0 ≡ Ok (0 ∷ 1 ∷ 0 ∷ 2 ∷ 0 ∷ 1 ∷ 2 ∷ 3 ∷ [])
unfolding dbr_of conversion_between
sts_char_layout = refl

largest_time_long : payload_size time_long 4194301 ≡ 16777216
largest_time_long = refl

longer_time_long : payload_size time_long 4194302 ≡ 16777224
longer_time_long = refl

largest_string : payload_size string 419430 ≡ 16777200
largest_string = refl

-- LONGs of -7, the least and the greatest
minus_seven : text_of (number_in integer.Long (255 ∷ 255 ∷ 255 ∷ 249 ∷ [])) ≡ 45 ∷ 55 ∷ replicate 38 0
unfolding digits
minus_seven = refl

least_long : signed_decimal (number_in integer.Long (128 ∷ 0 ∷ 0 ∷ 0 ∷ [])) ≡ codes "-2147483648"
unfolding digits
least_long = refl

greatest_long : signed_decimal (number_in integer.Long (127 ∷ 255 ∷ 255 ∷ 255 ∷ [])) ≡ codes "2147483647"
unfolding digits
greatest_long = refl

least_short : long_of (number_in integer.Short (128 ∷ 0 ∷ [])) ≡ 255 ∷ 255 ∷ 128 ∷ 0 ∷ []
least_short = refl

greatest_enum : long_of (number_in integer.Enum (255 ∷ 255 ∷ [])) ≡ 0 ∷ 0 ∷ 255 ∷ 255 ∷ []
greatest_enum = refl

greatest_char : short_of (number_in integer.Char (255 ∷ [])) ≡ 0 ∷ 255 ∷ []
greatest_char = refl

-- milliamperes from 0 to 100
abbrev milliamperes : Properties
milliamperes = record {
  base = base.Long;
  states = [];
  precision = [];
  units = 109 ∷ 65 ∷ 0 ∷ 0 ∷ 0 ∷ 0 ∷ 0 ∷ 0 ∷ [];
  limits = (0 ∷ 0 ∷ 0 ∷ 100 ∷ []) ∷ (0 ∷ 0 ∷ 0 ∷ 0 ∷ []) ∷ (0 ∷ 0 ∷ 0 ∷ 90 ∷ []) ∷ (0 ∷ 0 ∷ 0 ∷ 80 ∷ []) ∷ (0 ∷ 0 ∷ 0 ∷ 10 ∷ []) ∷ (0 ∷ 0 ∷ 0 ∷ 5 ∷ []) ∷ (0 ∷ 0 ∷ 0 ∷ 100 ∷ []) ∷ (0 ∷ 0 ∷ 0 ∷ 0 ∷ []) ∷ [];
}

-- volts with a precision of three
abbrev volts : Properties
volts = record {
  base = base.Double;
  states = [];
  precision = 0 ∷ 3 ∷ [];
  units = 86 ∷ 0 ∷ 0 ∷ 0 ∷ 0 ∷ 0 ∷ 0 ∷ 0 ∷ [];
  limits = replicate 8 17 ∷ replicate 8 34 ∷ replicate 8 51 ∷ replicate 8 68 ∷ replicate 8 85 ∷ replicate 8 102 ∷ replicate 8 119 ∷ replicate 8 136 ∷ [];
}

long_written : Option Properties → ℕ → ℕ → Result (List ℕ) LayoutFault
long_written given = written (record { dbr = time_long; parts = forty_two }) given

ctrl_long_layout : long_written (Some milliamperes) 33 1 ≡ Ok (0 ∷ 0 ∷ 0 ∷ 0 ∷ 109 ∷ 65 ∷ 0 ∷ 0 ∷ 0 ∷ 0 ∷ 0 ∷ 0 ∷ 0 ∷ 0 ∷ 0 ∷ 100 ∷ 0 ∷ 0 ∷ 0 ∷ 0 ∷ 0 ∷ 0 ∷ 0 ∷ 90 ∷ 0 ∷ 0 ∷ 0 ∷ 80 ∷ 0 ∷ 0 ∷ 0 ∷ 10 ∷ 0 ∷ 0 ∷ 0 ∷ 5 ∷ 0 ∷ 0 ∷ 0 ∷ 100 ∷ 0 ∷ 0 ∷ 0 ∷ 0 ∷ 0 ∷ 0 ∷ 0 ∷ 42 ∷ [])
unfolding dbr_of conversion_between long_written
ctrl_long_layout = refl

-- six limits, and eight bytes of elements that aren't there
gr_long_layout : long_written (Some milliamperes) 26 3 ≡ Ok (0 ∷ 0 ∷ 0 ∷ 0 ∷ 109 ∷ 65 ∷ 0 ∷ 0 ∷ 0 ∷ 0 ∷ 0 ∷ 0 ∷ 0 ∷ 0 ∷ 0 ∷ 100 ∷ 0 ∷ 0 ∷ 0 ∷ 0 ∷ 0 ∷ 0 ∷ 0 ∷ 90 ∷ 0 ∷ 0 ∷ 0 ∷ 80 ∷ 0 ∷ 0 ∷ 0 ∷ 10 ∷ 0 ∷ 0 ∷ 0 ∷ 5 ∷ 0 ∷ 0 ∷ 0 ∷ 42 ∷ 0 ∷ 0 ∷ 0 ∷ 0 ∷ 0 ∷ 0 ∷ 0 ∷ 0 ∷ [])
unfolding dbr_of conversion_between long_written
gr_long_layout = refl

properties_in : Result Shown LayoutFault → Option Properties
properties_in (Ok seen) = seen.parts.properties
properties_in (Err fault) = None

-- a property message of no elements is enough
ctrl_long_shown : properties_in (shown 33 0 (0 ∷ 7 ∷ 0 ∷ 8 ∷ 109 ∷ 65 ∷ 0 ∷ 0 ∷ 0 ∷ 0 ∷ 0 ∷ 0 ∷ 0 ∷ 0 ∷ 0 ∷ 100 ∷ 0 ∷ 0 ∷ 0 ∷ 0 ∷ 0 ∷ 0 ∷ 0 ∷ 90 ∷ 0 ∷ 0 ∷ 0 ∷ 80 ∷ 0 ∷ 0 ∷ 0 ∷ 10 ∷ 0 ∷ 0 ∷ 0 ∷ 5 ∷ 0 ∷ 0 ∷ 0 ∷ 100 ∷ 0 ∷ 0 ∷ 0 ∷ 0 ∷ [])) ≡ Some milliamperes
unfolding dbr_of properties_in
ctrl_long_shown = refl

ctrl_long_short : shown 33 0 (replicate 40 0) ≡ Err Short
unfolding dbr_of
ctrl_long_short = refl

-- a GR form shows none
gr_long_shown : properties_in (shown 26 0 (0 ∷ 7 ∷ 0 ∷ 8 ∷ 109 ∷ 65 ∷ 0 ∷ 0 ∷ 0 ∷ 0 ∷ 0 ∷ 0 ∷ 0 ∷ 0 ∷ 0 ∷ 100 ∷ 0 ∷ 0 ∷ 0 ∷ 0 ∷ 0 ∷ 0 ∷ 0 ∷ 90 ∷ 0 ∷ 0 ∷ 0 ∷ 80 ∷ 0 ∷ 0 ∷ 0 ∷ 10 ∷ 0 ∷ 0 ∷ 0 ∷ 5 ∷ [])) ≡ None
unfolding dbr_of properties_in
gr_long_shown = refl

needs_properties : long_written None 33 1 ≡ Err NoProperties
unfolding dbr_of conversion_between long_written
needs_properties = refl

-- those of another base are none
another_base : long_written (Some volts) 33 1 ≡ Err NoProperties
unfolding dbr_of conversion_between long_written
another_base = refl

-- a type is refused before it is asked for properties, and they before the size
type_first : long_written None 22 1 ≡ Err BadType
unfolding dbr_of conversion_between long_written
type_first = refl

properties_next : long_written None 33 4194294 ≡ Err NoProperties
unfolding dbr_of conversion_between long_written
properties_next = refl

too_large : long_written (Some milliamperes) 33 4194294 ≡ Err TooLarge
unfolding dbr_of conversion_between long_written
too_large = too_large_of (record { dbr = time_long; parts = forty_two }) (Some milliamperes) (Some milliamperes) 33 4194294 ctrl_long Unchanged 4194294 refl refl refl refl (lit< tt)

-- a text needs none of a LONG, and tells none
gr_string_layout : long_written None 21 1 ≡ Ok (0 ∷ 0 ∷ 0 ∷ 0 ∷ 52 ∷ 50 ∷ replicate 42 0)
unfolding dbr_of conversion_between long_written digits
gr_string_layout = refl

ctrl_string_layout : long_written (Some milliamperes) 28 1 ≡ long_written None 21 1
unfolding dbr_of conversion_between long_written digits
ctrl_string_layout = refl

abbrev doubles : Shown
doubles = record { dbr = record { base = base.Double; form = form.Time }; parts = alarmed ((63 ∷ 248 ∷ 0 ∷ 0 ∷ 0 ∷ 0 ∷ 0 ∷ 0 ∷ []) ∷ []) }

-- the two bytes behind the precision hold nothing, whatever came
volts_shown : properties_of base.Double (0 ∷ 3 ∷ 255 ∷ 255 ∷ 86 ∷ 0 ∷ 0 ∷ 0 ∷ 0 ∷ 0 ∷ 0 ∷ 0 ∷ (replicate 8 17 ++ replicate 8 34 ++ replicate 8 51 ++ replicate 8 68 ++ replicate 8 85 ++ replicate 8 102 ++ replicate 8 119 ++ replicate 8 136)) ≡ volts
volts_shown = refl

ctrl_double_layout : written doubles (Some volts) 34 1 ≡ Ok (0 ∷ 1 ∷ 0 ∷ 2 ∷ 0 ∷ 3 ∷ 0 ∷ 0 ∷ 86 ∷ 0 ∷ 0 ∷ 0 ∷ 0 ∷ 0 ∷ 0 ∷ 0 ∷ 17 ∷ 17 ∷ 17 ∷ 17 ∷ 17 ∷ 17 ∷ 17 ∷ 17 ∷ 34 ∷ 34 ∷ 34 ∷ 34 ∷ 34 ∷ 34 ∷ 34 ∷ 34 ∷ 51 ∷ 51 ∷ 51 ∷ 51 ∷ 51 ∷ 51 ∷ 51 ∷ 51 ∷ 68 ∷ 68 ∷ 68 ∷ 68 ∷ 68 ∷ 68 ∷ 68 ∷ 68 ∷ 85 ∷ 85 ∷ 85 ∷ 85 ∷ 85 ∷ 85 ∷ 85 ∷ 85 ∷ 102 ∷ 102 ∷ 102 ∷ 102 ∷ 102 ∷ 102 ∷ 102 ∷ 102 ∷ 119 ∷ 119 ∷ 119 ∷ 119 ∷ 119 ∷ 119 ∷ 119 ∷ 119 ∷ 136 ∷ 136 ∷ 136 ∷ 136 ∷ 136 ∷ 136 ∷ 136 ∷ 136 ∷ 63 ∷ 248 ∷ 0 ∷ 0 ∷ 0 ∷ 0 ∷ 0 ∷ 0 ∷ [])
unfolding dbr_of conversion_between
ctrl_double_layout = refl

gr_double_layout : written doubles (Some volts) 27 1 ≡ Ok (0 ∷ 1 ∷ 0 ∷ 2 ∷ 0 ∷ 3 ∷ 0 ∷ 0 ∷ 86 ∷ 0 ∷ 0 ∷ 0 ∷ 0 ∷ 0 ∷ 0 ∷ 0 ∷ 17 ∷ 17 ∷ 17 ∷ 17 ∷ 17 ∷ 17 ∷ 17 ∷ 17 ∷ 34 ∷ 34 ∷ 34 ∷ 34 ∷ 34 ∷ 34 ∷ 34 ∷ 34 ∷ 51 ∷ 51 ∷ 51 ∷ 51 ∷ 51 ∷ 51 ∷ 51 ∷ 51 ∷ 68 ∷ 68 ∷ 68 ∷ 68 ∷ 68 ∷ 68 ∷ 68 ∷ 68 ∷ 85 ∷ 85 ∷ 85 ∷ 85 ∷ 85 ∷ 85 ∷ 85 ∷ 85 ∷ 102 ∷ 102 ∷ 102 ∷ 102 ∷ 102 ∷ 102 ∷ 102 ∷ 102 ∷ 63 ∷ 248 ∷ 0 ∷ 0 ∷ 0 ∷ 0 ∷ 0 ∷ 0 ∷ [])
unfolding dbr_of conversion_between
gr_double_layout = refl

double_as_plain : written doubles None 6 1 ≡ Ok (63 ∷ 248 ∷ 0 ∷ 0 ∷ 0 ∷ 0 ∷ 0 ∷ 0 ∷ [])
unfolding dbr_of conversion_between
double_as_plain = refl

-- CHARs with limits
abbrev char_limits : Properties
char_limits = record {
  base = base.Char;
  states = [];
  precision = [];
  units = 65 ∷ 0 ∷ 0 ∷ 0 ∷ 0 ∷ 0 ∷ 0 ∷ 0 ∷ [];
  limits = (255 ∷ []) ∷ (0 ∷ []) ∷ (200 ∷ []) ∷ (128 ∷ []) ∷ (10 ∷ []) ∷ (5 ∷ []) ∷ (255 ∷ []) ∷ (1 ∷ []) ∷ [];
}

-- one byte before the value holds nothing
ctrl_char_layout : written chars (Some char_limits) 32 0 ≡ Ok (0 ∷ 1 ∷ 0 ∷ 2 ∷ 65 ∷ 0 ∷ 0 ∷ 0 ∷ 0 ∷ 0 ∷ 0 ∷ 0 ∷ 255 ∷ 0 ∷ 200 ∷ 128 ∷ 10 ∷ 5 ∷ 255 ∷ 1 ∷ 0 ∷ 1 ∷ 2 ∷ 3 ∷ [])
unfolding dbr_of conversion_between
ctrl_char_layout = refl

-- limits are unsigned, as the elements are
ctrl_short_layout : written chars (Some char_limits) 29 2 ≡ Ok (0 ∷ 1 ∷ 0 ∷ 2 ∷ 65 ∷ 0 ∷ 0 ∷ 0 ∷ 0 ∷ 0 ∷ 0 ∷ 0 ∷ 0 ∷ 255 ∷ 0 ∷ 0 ∷ 0 ∷ 200 ∷ 0 ∷ 128 ∷ 0 ∷ 10 ∷ 0 ∷ 5 ∷ 0 ∷ 255 ∷ 0 ∷ 1 ∷ 0 ∷ 1 ∷ 0 ∷ 2 ∷ [])
unfolding dbr_of conversion_between
ctrl_short_layout = refl

gr_long_of_char : written chars (Some char_limits) 26 1 ≡ Ok (0 ∷ 1 ∷ 0 ∷ 2 ∷ 65 ∷ 0 ∷ 0 ∷ 0 ∷ 0 ∷ 0 ∷ 0 ∷ 0 ∷ 0 ∷ 0 ∷ 0 ∷ 255 ∷ 0 ∷ 0 ∷ 0 ∷ 0 ∷ 0 ∷ 0 ∷ 0 ∷ 200 ∷ 0 ∷ 0 ∷ 0 ∷ 128 ∷ 0 ∷ 0 ∷ 0 ∷ 10 ∷ 0 ∷ 0 ∷ 0 ∷ 5 ∷ 0 ∷ 0 ∷ 0 ∷ 1 ∷ [])
unfolding dbr_of conversion_between
gr_long_of_char = refl

-- SHORTs keep their sign
abbrev short_limits : Properties
short_limits = record {
  base = base.Short;
  states = [];
  precision = [];
  units = 65 ∷ 0 ∷ 0 ∷ 0 ∷ 0 ∷ 0 ∷ 0 ∷ 0 ∷ [];
  limits = (127 ∷ 255 ∷ []) ∷ (128 ∷ 0 ∷ []) ∷ (0 ∷ 100 ∷ []) ∷ (0 ∷ 50 ∷ []) ∷ (255 ∷ 206 ∷ []) ∷ (255 ∷ 156 ∷ []) ∷ (127 ∷ 255 ∷ []) ∷ (128 ∷ 0 ∷ []) ∷ [];
}

abbrev shorts : Shown
shorts = record { dbr = record { base = base.Short; form = form.Time }; parts = alarmed ((255 ∷ 255 ∷ []) ∷ []) }

gr_long_of_short : written shorts (Some short_limits) 26 1 ≡ Ok (0 ∷ 1 ∷ 0 ∷ 2 ∷ 65 ∷ 0 ∷ 0 ∷ 0 ∷ 0 ∷ 0 ∷ 0 ∷ 0 ∷ 0 ∷ 0 ∷ 127 ∷ 255 ∷ 255 ∷ 255 ∷ 128 ∷ 0 ∷ 0 ∷ 0 ∷ 0 ∷ 100 ∷ 0 ∷ 0 ∷ 0 ∷ 50 ∷ 255 ∷ 255 ∷ 255 ∷ 206 ∷ 255 ∷ 255 ∷ 255 ∷ 156 ∷ 255 ∷ 255 ∷ 255 ∷ 255 ∷ [])
unfolding dbr_of conversion_between
gr_long_of_short = refl

-- states with so many texts by the number in front: OFF, ON, and 26 times A as the last
abbrev states_of : ℕ → ℕ → Properties
states_of high low = record {
  base = base.Enum;
  states = (high ∷ low ∷ 79 ∷ 70 ∷ 70 ∷ 0 ∷ 79 ∷ []) ++ (replicate 21 0 ++ ((79 ∷ 78 ∷ []) ++ (replicate 24 0 ++ (replicate 338 0 ++ replicate 26 65))));
  precision = [];
  units = [];
  limits = [];
}

abbrev enums : List (List ℕ) → Shown
enums elements = record { dbr = record { base = base.Enum; form = form.Time }; parts = alarmed elements }

-- a text ends before its NUL, also where bytes stand behind it; a state without a text is its number
texts_of_two : written (enums ((0 ∷ 0 ∷ []) ∷ (0 ∷ 1 ∷ []) ∷ (0 ∷ 2 ∷ []) ∷ [])) (Some (states_of 0 2)) 0 0 ≡ Ok ((79 ∷ 70 ∷ 70 ∷ []) ++ (replicate 37 0 ++ ((79 ∷ 78 ∷ []) ++ (replicate 38 0 ++ (50 ∷ replicate 39 0)))))
unfolding dbr_of conversion_between digits
texts_of_two = refl

-- an empty text is a text
empty_text : state_text (states_of 0 3).states 2 ≡ replicate 40 0
unfolding digits
empty_text = refl

-- there are sixteen at most, and none where the number is negative
sixteenth_text : state_text (states_of 0 17).states 15 ≡ replicate 26 65 ++ replicate 14 0
unfolding digits
sixteenth_text = refl

seventeenth_text : state_text (states_of 0 17).states 16 ≡ 49 ∷ 54 ∷ replicate 38 0
unfolding digits
seventeenth_text = refl

negative_number : state_text (states_of 255 255).states 0 ≡ 48 ∷ replicate 39 0
unfolding digits
negative_number = refl

texts_needed : written (enums ((0 ∷ 1 ∷ []) ∷ [])) None 14 1 ≡ Err NoProperties
unfolding dbr_of conversion_between
texts_needed = refl

time_string_of_enum : written (enums ((0 ∷ 1 ∷ []) ∷ [])) (Some (states_of 0 2)) 14 1 ≡ Ok ((0 ∷ 1 ∷ 0 ∷ 2 ∷ 59 ∷ 154 ∷ 202 ∷ 0 ∷ 0 ∷ 0 ∷ 0 ∷ 5 ∷ 79 ∷ 78 ∷ []) ++ replicate 42 0)
unfolding dbr_of conversion_between
time_string_of_enum = refl

-- number and texts as they came
ctrl_enum_layout : written (enums ((0 ∷ 1 ∷ []) ∷ [])) (Some (states_of 255 255)) 31 1 ≡ Ok ((0 ∷ 1 ∷ 0 ∷ 2 ∷ []) ++ ((states_of 255 255).states ++ (0 ∷ 1 ∷ [])))
unfolding dbr_of conversion_between
ctrl_enum_layout = refl

gr_enum_layout : written (enums ((0 ∷ 1 ∷ []) ∷ [])) (Some (states_of 255 255)) 24 1 ≡ written (enums ((0 ∷ 1 ∷ []) ∷ [])) (Some (states_of 255 255)) 31 1
unfolding dbr_of conversion_between
gr_enum_layout = refl

-- as a number a state has no units and no limits
ctrl_long_of_enum : written (enums ((0 ∷ 1 ∷ []) ∷ [])) (Some (states_of 0 2)) 33 1 ≡ Ok ((0 ∷ 1 ∷ 0 ∷ 2 ∷ []) ++ (replicate 43 0 ++ (1 ∷ [])))
unfolding dbr_of conversion_between
ctrl_long_of_enum = refl
