use Rattle.std.proofs.Common.{◌≡◌, drop}
use Rattle.std.specs.List.{list_any}
use Rattle.access_file.specs.Groups.{is_host_in}
use Rattle.access_file.specs.HostNames.{hosts_of}
use Rattle.access_file.proofs.access.Access.is_host_in_any.Given as goal

-- what is left decides
abbrev pub invariant-loop-group : goal.invariant-loop-group
invariant-loop-group l =
    list_any (is_host_in l.self (hosts_of l.rows l.host)) (drop l.group-index l.groups) ≡ list_any (is_host_in l.self (hosts_of l.rows l.host)) l.groups
