-- What a type needs beside a value.
use Rattle.std.specs.Prelude.{ℕ, Bool, true, false, ◌&&◌, ◌||◌, not, option_map, unwrap_or}
use Rattle.dbr_layout.specs.declared.dbr.Base.{Base}
use Rattle.dbr_layout.specs.declared.dbr.Base.TheVariants as base
use Rattle.dbr_layout.specs.declared.dbr.Form.{Form}
use Rattle.dbr_layout.specs.declared.dbr.Form.TheVariants as form
use Rattle.dbr_layout.specs.declared.dbr.Dbr.{Dbr}
use Rattle.dbr_layout.specs.Dbr.{dbr_of}

-- the forms that tell properties of the variable beside the alarm
abbrev pub is_described : Form → Bool
is_described form.Gr = true
is_described form.Ctrl = true
is_described _ = false

abbrev pub is_text : Base → Bool
is_text base.String = true
is_text _ = false

abbrev pub is_state : Base → Bool
is_state base.Enum = true
is_state _ = false

-- a type has properties: of a STRING there are none
abbrev pub has_properties : Dbr → Bool
has_properties dbr = is_described dbr.form && not (is_text dbr.base)

-- a type can't be told of a variable of this base without its properties: it tells them, or the texts of states
abbrev pub needs : Base → Dbr → Bool
needs native asked = has_properties asked || is_state native && is_text asked.base

-- the same by the number of a type, and false where no type has it
abbrev pub has_properties_by : ℕ → Bool
has_properties_by dtype = unwrap_or (option_map has_properties (dbr_of dtype)) false

abbrev pub is_text_by : ℕ → Bool
is_text_by dtype = unwrap_or (option_map (λ dbr. is_text dbr.base) (dbr_of dtype)) false

abbrev pub is_state_by : ℕ → Bool
is_state_by dtype = unwrap_or (option_map (λ dbr. is_state dbr.base) (dbr_of dtype)) false
