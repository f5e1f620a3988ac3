use Rattle.std.proofs.Common.{◌≡◌, drop}
use Rattle.std.specs.List.{list_any}
use Rattle.access_file.specs.HostNames.{names_of}
use Rattle.pvlist.specs.Hosts.{lists_host}
use Rattle.pv_alias.proofs.resolving.lists_name_of.Given as goal

-- what is left decides
abbrev pub invariant-loop-row : goal.invariant-loop-row
invariant-loop-row l =
    list_any (lists_host l.listed) (names_of (drop l.row-index l.names) l.host) ≡ list_any (lists_host l.listed) (names_of l.names l.host)
