use Rattle.std.proofs.Common.{◌≡◌, drop}
use Rattle.pv_alias.specs.Resolution.{matching, is_refused}
use Rattle.access_file.specs.HostNames.{hosts_of}
use Rattle.pv_alias.proofs.resolving.is_refused.Given as goal

-- what is left decides
abbrev pub invariant-loop-row : goal.invariant-loop-row
invariant-loop-row l =
    is_refused l.order (hosts_of l.names l.host) (matching (drop l.row-index l.rows) l.name) ≡ is_refused l.order (hosts_of l.names l.host) (matching l.rows l.name)
