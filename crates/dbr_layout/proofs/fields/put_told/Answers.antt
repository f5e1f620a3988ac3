-- Limits that stay are told as they are, and those of states are zero bytes.
use Rattle.std.proofs.Common.{◌≡◌, ap, ◌∙◌}
use Rattle.dbr_layout.specs.declared.conversion.Conversion.TheVariants.{ToLong}
use Rattle.dbr_layout.specs.declared.conversion.Integer.{Integer}
use Rattle.dbr_layout.specs.declared.conversion.Integer.TheVariants as integer
use Rattle.dbr_layout.proofs.Converting.{map-unchanged}
use Rattle.dbr_layout.proofs.Laying.{zeros_told}
use Rattle.dbr_layout.proofs.fields.put_told.Goals as goal

pub returns-in-Unchanged : goal.returns-in-Unchanged
returns-in-Unchanged c =
    let told = rw (c.in-Unchanged.is, map-unchanged) at c.put_all.ensures in
    rw c.in-Unchanged.is told

pub returns-in-ToLong-Enum : goal.returns-in-ToLong-Enum
returns-in-ToLong-Enum c =
    let from = rw c.in-ToLong-Enum.is at c.in-ToLong-Enum.field-0-is in
    let known : c.args.how ≡ ToLong integer.Enum = c.in-ToLong-Enum.is ∙ ap (λ (i : Integer). ToLong i) from in
    let zeros = rw (c.zeros_in.ensures, ← zeros_told c.args.to c.args.limits) at c.put_zeros.ensures in
    rw known zeros
