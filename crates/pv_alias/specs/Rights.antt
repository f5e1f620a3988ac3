-- The rights of groups (user's guide, group files).
use Rattle.std.specs.Prelude.{ℕ, List, Option, Some, None, unwrap_or}
use Rattle.pvlist.specs.declared.groups.GroupLine.{GroupLine}
use Rattle.pvlist.specs.Groups.{rights_of}

-- the rights that the lines of groups leave to the group of a lead, bit 0 to read and bit 1 to write: both where the
-- group has no line, or the lead no group
unfoldable pub group_rights : List GroupLine → Option (List ℕ) → ℕ
group_rights lines None = 3
group_rights lines (Some group) = unwrap_or (rights_of lines group) 3
