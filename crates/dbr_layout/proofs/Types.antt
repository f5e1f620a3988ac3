-- Types by their numbers.
use Rattle.std.proofs.Common.{◌≡◌, ℕ, ◌+◌, Some, refl, sym}
use Rattle.dbr_layout.specs.declared.dbr.Base.{Base}
use Rattle.dbr_layout.specs.declared.dbr.Base.TheVariants as base
use Rattle.dbr_layout.specs.declared.dbr.Form.{Form}
use Rattle.dbr_layout.specs.declared.dbr.Form.TheVariants as form
use Rattle.dbr_layout.specs.Dbr.{base_number, dbr_of, form_number}

-- a type is found by its number
found_at : (f : Form) (b : Base) → dbr_of (form_number f + base_number b) ≡ Some (record { base = b; form = f })
unfolding dbr_of
found_at form.Plain base.String = refl
found_at form.Plain _ = refl
found_at form.Sts base.String = refl
found_at form.Sts _ = refl
found_at form.Time base.String = refl
found_at form.Time _ = refl
found_at form.Gr base.String = refl
found_at form.Gr _ = refl
found_at form.Ctrl base.String = refl
found_at form.Ctrl _ = refl

pub found : (f : Form) (b : Base) (number : ℕ) → form_number f + base_number b ≡ number → Some (record { base = b; form = f }) ≡ dbr_of number
found f b number e = rw (← e) (sym (found_at f b))
