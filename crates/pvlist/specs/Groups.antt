-- Rights of groups.
use Rattle.std.specs.Prelude.{ℕ, List, map, filter, bytes_eq, Option, None}
use Rattle.std.specs.List.{last_or}
use Rattle.pvlist.specs.declared.groups.GroupLine.{GroupLine}
use Rattle.pvlist.specs.declared.groups.GroupRight.{GroupRight}
use Rattle.pvlist.specs.declared.groups.GroupRight.TheVariants as right

-- to read is bit 0, to write bit 1; who writes may read
abbrev pub right_bits : GroupRight → ℕ
right_bits right.None = 0
right_bits right.Read = 1
right_bits right.Write = 3

-- the rights that the lines of the group give, in order
abbrev pub rights_among : List GroupLine → List ℕ → List ℕ
rights_among lines group =
    map (λ (line : GroupLine). right_bits line.right) (filter (λ (line : GroupLine). bytes_eq line.group group) lines)

-- the last line of the group holds; a group without a line has no rights of its own
abbrev pub rights_of : List GroupLine → List ℕ → Option ℕ
rights_of lines group = last_or None (rights_among lines group)
