use Rattle.std.proofs.Common.{◌≡◌, drop}
use Rattle.std.specs.List.{last_or}
use Rattle.pvlist.specs.Groups.{rights_among, rights_of}
use Rattle.pvlist.proofs.groups.Groups.rights.Given as goal

-- what is left decides
abbrev pub invariant-loop-line : goal.invariant-loop-line
invariant-loop-line l = last_or l.rights (rights_among (drop l.line-index l.line-items) l.group) ≡ rights_of l.line-items l.group
