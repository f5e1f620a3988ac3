use Rattle.std.proofs.Common.{◌≡◌, drop}
use Rattle.pv_alias.specs.Resolution.{matching, is_refused}
use Rattle.access_file.specs.HostNames.{hosts_of}
use Rattle.pv_alias.proofs.resolver.is_refused.Given as goal

-- the rows stay, and what is left decides
abbrev pub invariant-loop-row : goal.invariant-loop-row
invariant-loop-row l =
    (l.rows ≡ l.fn.rows)
    × (is_refused l.order (hosts_of l.names l.host) (matching (drop l.row-index l.rows) l.name) ≡ is_refused l.order (hosts_of l.names l.host) (matching l.fn.rows l.name))
