-- Values that are written (Channel Access Protocol Specification, "Commands" and "Payload Data Types").
use Rattle.std.specs.Prelude.{ℕ, ◌*◌, Bool, true, false, ◌==◌, nat_lt, ◌||◌, if◌then◌else◌, List, length, take, Option, Some, None, Result, Ok, Err}
use Rattle.std.specs.List.{before_first}
use Rattle.dbr_layout.specs.declared.dbr.Base.{Base}
use Rattle.dbr_layout.specs.declared.dbr.Base.TheVariants.{String}
use Rattle.dbr_layout.specs.declared.dbr.Dbr.{Dbr}
use Rattle.dbr_layout.specs.declared.dbr.Form.{Form}
use Rattle.dbr_layout.specs.declared.dbr.Form.TheVariants.{Plain}
use Rattle.dbr_layout.specs.Dbr.{dbr_of, element_size}
use Rattle.dbr_layout.specs.Layout.{filled_to}
use Rattle.ca_message.specs.Text.{is_nul}
use Rattle.ca_message.specs.declared.codes.TheConstants.{ECA_BADTYPE, ECA_BADCOUNT}
use Rattle.ca_message.specs.declared.written.WriteFault.{WriteFault}
use Rattle.ca_message.specs.declared.written.WriteFault.TheVariants.{BadType, BadCount, Short}

-- a value that may be written: its type, how many elements it has, and their bytes
pub record Written : Type 0 where
  pub dtype : ℕ
  pub count : ℕ
  pub bytes : List ℕ

-- whether nothing stands before the elements
abbrev pub is_plain : Form → Bool
is_plain Plain = true
is_plain _ = false

abbrev pub if_plain : Option Dbr → Option Dbr
if_plain None = None
if_plain (Some dbr) = if is_plain dbr.form then Some dbr else None

-- the plain type with this number
abbrev pub plain_type : ℕ → Option Dbr
plain_type dtype = if_plain (dbr_of dtype)

abbrev pub is_string : Base → Bool
is_string String = true
is_string _ = false

-- the bytes of a STRING: of its first at most 40 those before the first NUL, and zero bytes behind
abbrev pub string_bytes : List ℕ → List ℕ
string_bytes payload = filled_to (element_size String) (before_first is_nul (take (element_size String) payload))

-- a value of so many bytes: a payload that has fewer is short, and what follows them is left out
abbrev pub whole_value : ℕ → ℕ → ℕ → List ℕ → Result Written WriteFault
whole_value dtype count size payload =
    if nat_lt (length payload) size then Err Short
    else Ok (record { dtype = dtype; count = count; bytes = take size payload })

-- a single STRING: the payload may end before its 40 bytes do, but it isn't empty
abbrev pub string_value : ℕ → List ℕ → Result Written WriteFault
string_value dtype payload =
    if length payload == 0 then Err Short
    else Ok (record { dtype = dtype; count = 1; bytes = string_bytes payload })

abbrev pub value_of : Base → ℕ → ℕ → List ℕ → Result Written WriteFault
value_of base dtype count payload =
    if is_string base then (if count == 1 then string_value dtype payload else whole_value dtype count (count * element_size base) payload)
    else whole_value dtype count (count * element_size base) payload

abbrev pub counted_value : Option Dbr → ℕ → ℕ → ℕ → List ℕ → Result Written WriteFault
counted_value None dtype count native payload = Err BadType
counted_value (Some dbr) dtype count native payload =
    if count == 0 || nat_lt native count then Err BadCount else value_of dbr.base dtype count payload

-- the value that a client writes to a channel of `native` elements with this type, count and payload, or why it can't
abbrev pub written : ℕ → ℕ → ℕ → List ℕ → Result Written WriteFault
written dtype count native payload = counted_value (plain_type dtype) dtype count native payload

-- the code under which a write is refused
abbrev pub refusal_code : WriteFault → ℕ
refusal_code BadType = ECA_BADTYPE
refusal_code BadCount = ECA_BADCOUNT
refusal_code Short = ECA_BADCOUNT
