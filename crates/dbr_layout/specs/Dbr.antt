-- The DBR types: their numbers, where their values begin and how large their elements are.
use Rattle.std.specs.Prelude.{ℕ, ◌+◌, ◌*◌, ◌==◌, List, [], ◌∷◌, map, flat_map, Option, find, slice_index}
use Rattle.std.specs.Int.{next_multiple_of}
use Rattle.dbr_layout.specs.declared.dbr.Base.{Base}
use Rattle.dbr_layout.specs.declared.dbr.Base.TheVariants as base
use Rattle.dbr_layout.specs.declared.dbr.Form.{Form}
use Rattle.dbr_layout.specs.declared.dbr.Form.TheVariants as form
use Rattle.dbr_layout.specs.declared.dbr.Dbr.{Dbr}
use Rattle.dbr_layout.specs.declared.dbr.TheConstants.{ALIGNMENT}

-- the number of a base, which is that of its plain type
abbrev pub base_number : Base → ℕ
base_number base.String = 0
base_number base.Short = 1
base_number base.Float = 2
base_number base.Enum = 3
base_number base.Char = 4
base_number base.Long = 5
base_number base.Double = 6

-- what a form adds to the number of the base
abbrev pub form_number : Form → ℕ
form_number form.Plain = 0
form_number form.Sts = 7
form_number form.Time = 14
form_number form.Gr = 21
form_number form.Ctrl = 28

abbrev pub number_of : Dbr → ℕ
number_of dbr = form_number dbr.form + base_number dbr.base

-- by rising numbers
abbrev pub bases : List Base
bases = base.String ∷ base.Short ∷ base.Float ∷ base.Enum ∷ base.Char ∷ base.Long ∷ base.Double ∷ []

abbrev pub types_of : Form → List Dbr
types_of f = map (λ b. record { base = b; form = f }) bases

-- the types that are served: those of all bases in all forms
abbrev pub served : List Dbr
served = flat_map types_of (form.Plain ∷ form.Sts ∷ form.Time ∷ form.Gr ∷ form.Ctrl ∷ [])

-- the served type with this number
unfoldable pub dbr_of : ℕ → Option Dbr
dbr_of number = find (λ dbr. number_of dbr == number) served

-- the entry of a base in a row of the tables below
abbrev pub column : List ℕ → Base → ℕ
column row base = slice_index row (base_number base)

-- the bytes of one element          STRING SHORT  FLOAT  ENUM   CHAR   LONG   DOUBLE
abbrev pub element_size : Base → ℕ
element_size = column (40 ∷ 2 ∷ 4 ∷ 2 ∷ 1 ∷ 4 ∷ 8 ∷ [])

-- where the value begins, by form   STRING SHORT  FLOAT  ENUM   CHAR   LONG   DOUBLE
abbrev pub offsets : Form → List ℕ
offsets form.Plain = 0 ∷ 0 ∷ 0 ∷ 0 ∷ 0 ∷ 0 ∷ 0 ∷ []
offsets form.Sts = 4 ∷ 4 ∷ 4 ∷ 4 ∷ 5 ∷ 4 ∷ 8 ∷ []
offsets form.Time = 12 ∷ 14 ∷ 12 ∷ 14 ∷ 15 ∷ 12 ∷ 16 ∷ []
offsets form.Gr = 4 ∷ 24 ∷ 40 ∷ 422 ∷ 19 ∷ 36 ∷ 64 ∷ []
offsets form.Ctrl = 4 ∷ 28 ∷ 48 ∷ 422 ∷ 21 ∷ 44 ∷ 80 ∷ []

abbrev pub value_offset : Dbr → ℕ
value_offset dbr = column (offsets dbr.form) dbr.base

-- where this many elements end
abbrev pub value_end : Dbr → ℕ → ℕ
value_end dbr count = value_offset dbr + count * element_size dbr.base

-- the size of a payload with this many elements, its padding counted
abbrev pub payload_size : Dbr → ℕ → ℕ
payload_size dbr count = next_multiple_of (value_end dbr count) ALIGNMENT
