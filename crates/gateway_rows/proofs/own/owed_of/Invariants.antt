use Rattle.std.proofs.Common.{◌≡◌, ◌++◌, filter, drop}
use Rattle.named_rows.specs.Subs.{is_sub_of}
use Rattle.channel_table.specs.Looks.{GoesOn}
use Rattle.gateway_rows.specs.Own.{is_owed}
use Rattle.gateway_rows.proofs.own.owed_of.Given as goal

-- those taken so far and those among the subscriptions that are left are all
abbrev pub invariant-loop-n : goal.invariant-loop-n
invariant-loop-n l =
    (l.subs.items ++ filter is_owed (drop l.n (filter (is_sub_of l.session) l.clients.rows.subs)) ≡ filter is_owed (filter (is_sub_of l.session) l.clients.rows.subs))
    × GoesOn l.fn.visits l.visits
