use Rattle.std.proofs.Common.{◌≡◌, ◌++◌, map}
use Rattle.channel_table.specs.Looks.{GoesOn}
use Rattle.consequences.proofs.updates.all_subs.Given as goal

-- those copied so far and those that are left are all
abbrev pub invariant-loop-sub : goal.invariant-loop-sub
invariant-loop-sub l =
    (l.subs.items ++ map (λ row. row.now) l.sub-iterator.rest.items ≡ l.known.state.clients.subs)
    × GoesOn l.fn.visits l.visits
