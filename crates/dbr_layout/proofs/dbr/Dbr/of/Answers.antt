-- The number of a type is the sum of those of its form and its base.
use Rattle.std.proofs.Common.{◌≡◌, ◌+◌, arith}
use Rattle.dbr_layout.specs.Dbr.{base_number, form_number}
use Rattle.dbr_layout.proofs.Types.{found}
use Rattle.dbr_layout.proofs.dbr.Dbr.of.Goals as goal

pub returns : goal.returns
returns c =
    let number : form_number c.in_ok-form.form + base_number c.in_ok-base.base ≡ c.args.number = omega (arith, c.in_ok-form.ensures.found, c.in_ok-base.ensures.found) in
    found _ _ _ number
