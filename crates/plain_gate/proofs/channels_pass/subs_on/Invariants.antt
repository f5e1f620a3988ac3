use Rattle.std.proofs.Common.{◌≡◌, ◌++◌, drop}
use Rattle.std.specs.List.{filter}
use Rattle.named_rows.specs.Subs.{is_sub_on}
use Rattle.plain_gate.proofs.channels_pass.subs_on.Given as goal

-- those found so far and those that are left are all
abbrev pub invariant-loop-sub : goal.invariant-loop-sub
invariant-loop-sub l =
    l.subs.items ++ filter (is_sub_on l.session l.sid) (drop l.sub-index l.sub-items)
    ≡ filter (is_sub_on l.session l.sid) l.rows.clients.subs
