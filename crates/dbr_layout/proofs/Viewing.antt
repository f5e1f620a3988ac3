-- What a view shows.
use Rattle.std.proofs.Common.{◌≡◌, ℕ, ◌≤◌, List, length, Some, Ok, refl, arith}
use Rattle.std.proofs.lemmas.Bool.{le-leb}
use Rattle.dbr_layout.specs.declared.dbr.Dbr.{Dbr}
use Rattle.dbr_layout.specs.declared.dbr.Form.{Form}
use Rattle.dbr_layout.specs.declared.dbr.Form.TheVariants.{Plain, Sts, Time, Gr, Ctrl}
use Rattle.dbr_layout.specs.declared.dbr.Base.{Base}
use Rattle.dbr_layout.specs.declared.dbr.Base.TheVariants as base
use Rattle.dbr_layout.specs.Dbr.{dbr_of, column, offsets, value_end, value_offset}
use Rattle.dbr_layout.specs.Parts.{fields_len, parts_in}
use Rattle.dbr_layout.specs.View.{shown}

-- a served type whose elements are there is shown with its parts
pub shown_ok : (dtype count : ℕ) (bytes : List ℕ) (dbr : Dbr) → dbr_of dtype ≡ Some dbr → value_end dbr count ≤ length bytes → shown dtype count bytes ≡ Ok (record { dbr = dbr; parts = parts_in dbr count bytes })
shown_ok dtype count bytes dbr known there =
    rw (known, le-leb (value_end dbr count) (length bytes) there) refl

pub fields_len_column : (form : Form) (b : Base) → fields_len form ≤ column (offsets form) b
fields_len_column Plain b = omega arith
fields_len_column Sts base.String = omega arith
fields_len_column Sts _ = omega arith
fields_len_column Time base.String = omega arith
fields_len_column Time _ = omega arith
fields_len_column Gr base.String = omega arith
fields_len_column Gr _ = omega arith
fields_len_column Ctrl base.String = omega arith
fields_len_column Ctrl _ = omega arith

-- the fields stand before the value
pub fields_len-le : (dbr : Dbr) → fields_len dbr.form ≤ value_offset dbr
fields_len-le dbr = fields_len_column dbr.form dbr.base
