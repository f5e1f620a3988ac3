-- What a payload holds, apart from the type that it is laid out under.
use Rattle.std.specs.Prelude.{ℕ, ℤ, pos, List, drop, Option, Some, None}
use Rattle.std.specs.Int.{w16, cast_signed}
use Rattle.byteorder.specs.Endian.{big_number}
use Rattle.dbr_layout.specs.declared.dbr.Base.{Base}
use Rattle.dbr_layout.specs.declared.dbr.Form.{Form}
use Rattle.dbr_layout.specs.declared.dbr.Form.TheVariants as form
use Rattle.dbr_layout.specs.declared.dbr.Dbr.{Dbr}
use Rattle.dbr_layout.specs.declared.view.Stamp.{Stamp}
use Rattle.dbr_layout.specs.Dbr.{element_size, value_offset}
use Rattle.dbr_layout.specs.Elements.{elements_in}
use Rattle.dbr_layout.specs.Properties.{Properties, properties_of}

-- The alarm, the time stamp, the properties of the variable and the elements. An element is the list of its bytes,
-- since how many there are and which comes when is said of elements, and of no byte of one.
pub record Parts : Type 0 where
  pub status : ℤ
  pub severity : ℤ
  pub stamp : Stamp
  pub properties : Option Properties
  pub elements : List (List ℕ)

-- the stamp of a form that has none
abbrev pub no_stamp : Stamp
no_stamp = record { seconds = 0; nanoseconds = 0 }

-- the fields of a form, at the front of the bytes; 0 for one that the form doesn't have
abbrev pub status_in : Form → List ℕ → ℤ
status_in form.Plain bytes = pos 0
status_in _ bytes = cast_signed w16 (big_number 2 bytes)

abbrev pub severity_in : Form → List ℕ → ℤ
severity_in form.Plain bytes = pos 0
severity_in _ bytes = cast_signed w16 (big_number 2 (drop 2 bytes))

abbrev pub stamp_in : Form → List ℕ → Stamp
stamp_in form.Time bytes = record { seconds = big_number 4 (drop 4 bytes); nanoseconds = big_number 4 (drop 8 bytes) }
stamp_in _ bytes = no_stamp

-- how many bytes the alarm and the stamp of a form take
abbrev pub fields_len : Form → ℕ
fields_len form.Plain = 0
fields_len form.Time = 12
fields_len _ = 4

abbrev pub properties_under : Form → Base → List ℕ → Option Properties
properties_under form.Ctrl base bytes = Some (properties_of base bytes)
properties_under _ base bytes = None

-- the properties behind the alarm of a CTRL form; from a GR form, which tells fewer limits, none are taken
abbrev pub properties_in : Dbr → List ℕ → Option Properties
properties_in dbr bytes = properties_under dbr.form dbr.base (drop (fields_len dbr.form) bytes)

-- what the bytes hold under a type
abbrev pub parts_in : Dbr → ℕ → List ℕ → Parts
parts_in dbr count bytes = record {
  status = status_in dbr.form bytes;
  severity = severity_in dbr.form bytes;
  stamp = stamp_in dbr.form bytes;
  properties = properties_in dbr bytes;
  elements = elements_in (element_size dbr.base) count (drop (value_offset dbr) bytes);
}
