-- Laws of layouts and of what is shown.
use Rattle.std.specs.Prelude.{◌≡◌, ℕ, ◌^◌, ◌<◌, ◌≤◌, pos, List, ◌++◌, length, take, slice_index, FitsSigned, Option, Some, None, Ok}
use Rattle.std.specs.Int.{w16}
use Rattle.dbr_layout.specs.declared.dbr.Base.{Base}
use Rattle.dbr_layout.specs.declared.dbr.Form.{Form}
use Rattle.dbr_layout.specs.declared.dbr.Form.TheVariants as form
use Rattle.dbr_layout.specs.declared.dbr.Dbr.{Dbr}
use Rattle.dbr_layout.specs.Conversion.{given_count}
use Rattle.dbr_layout.specs.Converted.{written}
use Rattle.dbr_layout.specs.Dbr.{dbr_of, element_size}
use Rattle.dbr_layout.specs.Layout.{layout}
use Rattle.dbr_layout.specs.Elements.{AreSized}
use Rattle.dbr_layout.specs.Parts.{Parts, no_stamp}
use Rattle.dbr_layout.specs.Properties.{Fit, Properties}
use Rattle.dbr_layout.specs.View.{Shown, shown}

-- what a form has room for; the rest reads as 0, and as no properties
abbrev pub kept : Form → Parts → Parts
kept form.Plain parts = record parts { status = pos 0; severity = pos 0; stamp = no_stamp; properties = None }
kept form.Time parts = record parts { properties = None }
kept form.Ctrl parts = record parts { stamp = no_stamp }
kept _ parts = record parts { stamp = no_stamp; properties = None }

-- the properties that are laid out under a form are as large as those of the base, and a CTRL form has some
abbrev pub FitForm : Form → Base → Option Properties → Type 0
FitForm form.Gr base None = Unit {0}
FitForm form.Gr base (Some p) = Fit base p
FitForm form.Ctrl base None = ⊥
FitForm form.Ctrl base (Some p) = Fit base p
FitForm _ base given = Unit {0}

-- parts that can be laid out under a type
pub record CanHold (dbr : Dbr) (parts : Parts) : Type 0 where
  pub status : FitsSigned w16 parts.status
  pub severity : FitsSigned w16 parts.severity
  pub seconds : parts.stamp.seconds < 2 ^ 32
  pub nanoseconds : parts.stamp.nanoseconds < 2 ^ 32
  pub properties : FitForm dbr.form dbr.base parts.properties
  pub elements : AreSized (element_size dbr.base) parts.elements

-- what is laid out under a served type is shown again, whatever bytes follow it
abbrev pub ReadsBack : Type 0
ReadsBack =
    (number : ℕ) (dbr : Dbr) (parts : Parts) (rest : List ℕ)
    → dbr_of number ≡ Some dbr → CanHold dbr parts
    → shown number (length parts.elements) (layout dbr parts ++ rest) ≡ Ok (record { dbr = dbr; parts = kept dbr.form parts })

-- as many elements of a view as a count asks for, where they are there, are shown again once they are written under
-- the type of the view with its own properties: with the same alarm, stamp and properties. A GR form that needs
-- properties has none of its own, so nothing is written
abbrev pub WritesBack : Type 0
WritesBack =
    (number there count : ℕ) (bytes payload rest : List ℕ) (old : Shown)
    → ((i : ℕ) → slice_index bytes i < 256)
    → shown number there bytes ≡ Ok old → count ≤ there → written old old.parts.properties number count ≡ Ok payload
    → let given : ℕ = given_count count there in
    shown number given (payload ++ rest) ≡ Ok (record old { parts = record old.parts { elements = take given old.parts.elements } })
