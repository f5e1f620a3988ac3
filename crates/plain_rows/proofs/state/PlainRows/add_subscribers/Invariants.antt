use Rattle.std.proofs.Common.{◌≡◌, ◌++◌, map, filter, drop}
use Rattle.named_rows.specs.Demand.{own_ask}
use Rattle.gateway_state.specs.Interest.{is_subscriber}
use Rattle.plain_rows.proofs.state.PlainRows.add_subscribers.Given as goal

-- what was added and what the subscriptions that are left ask for is what all ask for
abbrev pub invariant-loop-sub : goal.invariant-loop-sub
invariant-loop-sub l =
    l.asks.items ++ map own_ask (filter (is_subscriber l.self l.name) (drop l.sub-index l.sub-items)) ≡ l.fn.asks.items ++ map own_ask (filter (is_subscriber l.self l.name) l.self.clients.subs)
