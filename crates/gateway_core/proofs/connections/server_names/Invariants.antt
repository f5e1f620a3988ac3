use Rattle.std.proofs.Common.{◌≡◌, ◌++◌, drop, filter}
use Rattle.link_table.specs.Links.{is_of}
use Rattle.touched_rows.specs.Touches.{link_names}
use Rattle.gateway_core.proofs.connections.server_names.Given as goal

-- those taken so far and those that are left are all
abbrev pub invariant-loop-n : goal.invariant-loop-n
invariant-loop-n l =
    l.names ++ drop l.n (link_names (filter (is_of l.number) l.upstream.links)) ≡ link_names (filter (is_of l.number) l.upstream.links)
