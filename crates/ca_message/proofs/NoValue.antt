-- Bytes that stand for a value that isn't told.
use Rattle.std.proofs.Common.{◌≡◌, ℕ, ◌+◌, ◌≤◌, List, [], length, refl, ap, ◌∙◌, arith}
use Rattle.std.specs.Prelude.{max, replicate, Option, Some, None}
use Rattle.std.proofs.lemmas.List.{length-append, length-replicate}
use Rattle.dbr_layout.specs.declared.dbr.Base.{Base}
use Rattle.dbr_layout.specs.declared.dbr.Base.TheVariants as base
use Rattle.dbr_layout.specs.declared.dbr.Dbr.{Dbr}
use Rattle.dbr_layout.specs.declared.dbr.Form.{Form}
use Rattle.dbr_layout.specs.declared.dbr.Form.TheVariants as form
use Rattle.dbr_layout.specs.Dbr.{column, dbr_of, offsets, value_offset}
use Rattle.ca_message.specs.Padding.{missing_bytes, padded}
use Rattle.ca_message.specs.ToClient.{bytes_before, no_value}

offset_small : (f : Form) (b : Base) → column (offsets f) b ≤ 422
offset_small form.Plain base.String = omega arith
offset_small form.Plain base.Short = omega arith
offset_small form.Plain base.Float = omega arith
offset_small form.Plain base.Enum = omega arith
offset_small form.Plain base.Char = omega arith
offset_small form.Plain base.Long = omega arith
offset_small form.Plain base.Double = omega arith
offset_small form.Sts base.String = omega arith
offset_small form.Sts base.Short = omega arith
offset_small form.Sts base.Float = omega arith
offset_small form.Sts base.Enum = omega arith
offset_small form.Sts base.Char = omega arith
offset_small form.Sts base.Long = omega arith
offset_small form.Sts base.Double = omega arith
offset_small form.Time base.String = omega arith
offset_small form.Time base.Short = omega arith
offset_small form.Time base.Float = omega arith
offset_small form.Time base.Enum = omega arith
offset_small form.Time base.Char = omega arith
offset_small form.Time base.Long = omega arith
offset_small form.Time base.Double = omega arith
offset_small form.Gr base.String = omega arith
offset_small form.Gr base.Short = omega arith
offset_small form.Gr base.Float = omega arith
offset_small form.Gr base.Enum = omega arith
offset_small form.Gr base.Char = omega arith
offset_small form.Gr base.Long = omega arith
offset_small form.Gr base.Double = omega arith
offset_small form.Ctrl base.String = omega arith
offset_small form.Ctrl base.Short = omega arith
offset_small form.Ctrl base.Float = omega arith
offset_small form.Ctrl base.Enum = omega arith
offset_small form.Ctrl base.Char = omega arith
offset_small form.Ctrl base.Long = omega arith
offset_small form.Ctrl base.Double = omega arith

-- few bytes stand before the elements of a type
pub few_before : (dbr : Dbr) → value_offset dbr ≤ 422
few_before dbr = offset_small dbr.form dbr.base

length_padded : (n : ℕ) → length (padded (replicate n 0)) ≡ n + missing_bytes n
length_padded n =
    length-append (replicate n 0) (replicate (missing_bytes (length (replicate n 0))) 0)
    ∙ rw (length-replicate {A = ℕ} n 0, length-replicate {A = ℕ} (missing_bytes n) 0) refl

pub length_no_value : (dtype : ℕ) → length (no_value dtype) ≡ bytes_before (dbr_of dtype) + missing_bytes (bytes_before (dbr_of dtype))
length_no_value dtype = length_padded (bytes_before (dbr_of dtype))
