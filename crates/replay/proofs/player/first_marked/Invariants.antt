use Rattle.std.proofs.Common.{◌≡◌}
use Rattle.std.specs.Prelude.{IfSome}
use Rattle.std.specs.BTreeMap.{keys}
use Rattle.std.specs.List.{find}
use Rattle.gateway_state.specs.Asked.{must_end}
use Rattle.replay.proofs.player.first_marked.Given as goal

-- the first of those that are left is the first of all
abbrev pub invariant-loop-dest : goal.invariant-loop-dest
invariant-loop-dest g l = record {
  same : g.G.GatewayCalls.state l.gate ≡ g.G.GatewayCalls.state l.initial.gate;
  first : IfSome (g.G.GatewayCalls.state l.initial.gate) (λ w. find (must_end w) l.dest-iterator ≡ find (must_end w) (keys l.intakes));
}
