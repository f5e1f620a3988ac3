use Rattle.std.proofs.Common.{◌≡◌, ◌++◌, ◌&&◌, filter, drop}
use Rattle.named_rows.specs.declared.subs.ClientSub.{ClientSub}
use Rattle.gateway_state.specs.Servers.{concerns}
use Rattle.gateway_state.specs.Updates.{concerned, is_sub_to}
use Rattle.plain_gate.proofs.update.concerned.Given as goal

-- those found so far and those among the subscriptions that are left are all
abbrev pub invariant-loop-sub : goal.invariant-loop-sub
invariant-loop-sub l =
    l.subs.items ++ filter (λ (sub : ClientSub). is_sub_to l.rows l.link.name sub && concerns l.subject l.rows l.link.cid l.dtype l.count l.payload sub) (drop l.sub-index l.sub-items) ≡ concerned l.rows l.link.name (concerns l.subject l.rows l.link.cid l.dtype l.count l.payload)
