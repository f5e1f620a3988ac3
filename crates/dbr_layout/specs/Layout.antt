-- How a payload is laid out.
use Rattle.std.specs.Prelude.{ℕ, ◌-◌, List, [], ◌++◌, length, replicate}
use Rattle.std.specs.Int.{w16, w32, cast_unsigned, next_multiple_of, to_be_bytes}
use Rattle.std.specs.List.{concat}
use Rattle.dbr_layout.specs.declared.dbr.Form.{Form}
use Rattle.dbr_layout.specs.declared.dbr.Form.TheVariants as form
use Rattle.dbr_layout.specs.declared.dbr.Dbr.{Dbr}
use Rattle.dbr_layout.specs.declared.dbr.TheConstants.{ALIGNMENT}
use Rattle.dbr_layout.specs.declared.view.Stamp.{Stamp}
use Rattle.dbr_layout.specs.Dbr.{value_offset}
use Rattle.dbr_layout.specs.Parts.{Parts}
use Rattle.dbr_layout.specs.Properties.{limits_told, property_bytes_in}

abbrev pub alarm_bytes : Parts → List ℕ
alarm_bytes parts =
    to_be_bytes w16 (cast_unsigned w16 parts.status) ++ to_be_bytes w16 (cast_unsigned w16 parts.severity)

abbrev pub stamp_bytes : Stamp → List ℕ
stamp_bytes stamp = to_be_bytes w32 stamp.seconds ++ to_be_bytes w32 stamp.nanoseconds

-- the fields of a form
abbrev pub fields : Form → Parts → List ℕ
fields form.Plain parts = []
fields form.Sts parts = alarm_bytes parts
fields form.Time parts = alarm_bytes parts ++ stamp_bytes parts.stamp
fields form.Gr parts = alarm_bytes parts ++ property_bytes_in (limits_told form.Gr) parts.properties
fields form.Ctrl parts = alarm_bytes parts ++ property_bytes_in (limits_told form.Ctrl) parts.properties

-- the bytes, and zero bytes up to a length
abbrev pub filled_to : ℕ → List ℕ → List ℕ
filled_to len bytes = bytes ++ replicate (len - length bytes) 0

-- the fields, zero bytes up to the value, and the elements
abbrev pub value_bytes : Dbr → Parts → List ℕ
value_bytes dbr parts = filled_to (value_offset dbr) (fields dbr.form parts) ++ concat parts.elements

-- the same with zero bytes up to a multiple of 8
abbrev pub layout : Dbr → Parts → List ℕ
layout dbr parts = filled_to (next_multiple_of (length (value_bytes dbr parts)) ALIGNMENT) (value_bytes dbr parts)
