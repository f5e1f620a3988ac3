-- Names in an access security file.
use Rattle.std.specs.Prelude.{ℕ, if◌then◌else◌, List, Result, Ok, Err}
use Rattle.pv_name.specs.Group.{is_group}
use Rattle.access_file.specs.declared.fault.AccessCause.{AccessCause}
use Rattle.access_file.specs.declared.fault.AccessCause.TheVariants.{BadName}

-- the name that the word is: 1 to 127 printable characters and no blank
abbrev pub name_of : List ℕ → Result (List ℕ) AccessCause
name_of word = if is_group word then Ok word else Err BadName
