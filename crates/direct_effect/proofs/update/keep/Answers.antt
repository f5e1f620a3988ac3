use Rattle.std.proofs.Common.{◌≡◌, subst}
use Rattle.std.specs.Prelude.{OnOk}
use Rattle.value_cache.specs.Held.{Held}
use Rattle.gateway_state.specs.Servers.{with_held}
use Rattle.direct_effect.proofs.Longer.{held_as_kept}
use Rattle.direct_effect.proofs.update.keep.Goals as goal

-- what is kept says what the payload says
pub returns-clause-ok : goal.returns-clause-ok
returns-clause-ok c =
    subst (λ (change : Held → Held). OnOk c.put.result (c.put.new.known.state ≡ with_held c.args.server c.args.cid change c.args.known.now.state))
    (held_as_kept c.args.arrival.subject c.args.arrival.native c.args.arrival.asked_with c.args.arrival.dtype c.args.arrival.count c.args.payload c.in_ok-kept.kept c.in_ok-kept.ensures c.requires)
    c.put.ensures.ok
