use Rattle.std.proofs.Common.{◌≡◌, Option, drop}
use Rattle.std.specs.Prelude.{map, option_map}
use Rattle.gateway_state.specs.Gateway.{Gateway}
use Rattle.gateway_state.specs.Step.{run}
use Rattle.gateway_state.specs.declared.event.Event.TheVariants.{Search}
use Rattle.replay.proofs.player.look_for.Given as goal

-- the names that are left, looked for now, are all of them
abbrev pub invariant-loop-name : goal.invariant-loop-name
invariant-loop-name g l =
    (new : Option Gateway) → new ≡ option_map (λ w. run w (map (Search l.host) (drop l.name-index l.names))) (g.G.GatewayCalls.state l.gate)
    → new ≡ option_map (λ w. run w (map (Search l.host) l.names)) (g.G.GatewayCalls.state l.initial.gate)
