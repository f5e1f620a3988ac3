use Rattle.std.proofs.Common.{◌≡◌, drop}
use Rattle.std.specs.List.{list_any}
use Rattle.access_file.specs.Groups.{is_host_listed}
use Rattle.access_file.specs.HostNames.{names_of}
use Rattle.access_file.proofs.names.ListedNames.contains_name_of.Given as goal

-- what is left decides
abbrev pub invariant-loop-row : goal.invariant-loop-row
invariant-loop-row l =
    list_any (is_host_listed l.self) (names_of (drop l.row-index l.rows) l.host) ≡ list_any (is_host_listed l.self) (names_of l.rows l.host)
