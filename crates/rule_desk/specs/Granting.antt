-- What an access security file grants to who was led by the rules (EPICS: Application Developer's Guide, Access Security).
use Rattle.std.specs.Prelude.{ℕ, List, codes, Option, Some, None, unwrap_or}
use Rattle.std.specs.Option.{option_map}
use Rattle.access_file.specs.declared.rule.Grant.{Grant}
use Rattle.access_file.specs.Groups.{AccessGroups, granted, right_bits}
use Rattle.pvlist.specs.declared.groups.GroupLine.{GroupLine}
use Rattle.pv_alias.specs.declared.lead.Lead.{Lead}
use Rattle.pv_alias.specs.Rights.{group_rights}

-- a variable whose row names no group is in DEFAULT
abbrev pub group_or_default : Option (List ℕ) → List ℕ
group_or_default group = unwrap_or group (codes "DEFAULT")

-- the lead, with what the file grants there to the user, whose host counts as these
abbrev pub granting : AccessGroups → List ℕ → List (List ℕ) → Lead → Lead
granting file user hosts lead =
    record lead { grant = Some (granted file user hosts (group_or_default lead.group) lead.level) }

-- where a user is led, whom the rules lead so: without a file nothing is granted
abbrev pub led : Option AccessGroups → List ℕ → List (List ℕ) → Option Lead → Option Lead
led None user hosts lead = lead
led (Some file) user hosts lead = option_map (granting file user hosts) lead

-- the rights of a lead, bit 0 to read and bit 1 to write: those that are granted; where nothing is, those that the lines
-- of the group file leave to the group
abbrev pub rights_by : List GroupLine → Option (List ℕ) → Option Grant → ℕ
rights_by lines group None = group_rights lines group
rights_by lines group (Some grant) = right_bits grant.right
