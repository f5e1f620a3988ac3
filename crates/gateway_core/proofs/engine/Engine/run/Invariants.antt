use Rattle.std.proofs.Common.{◌≡◌, ◌≤◌, IsSome, length}
use Rattle.std.specs.Option.{option_map}
use Rattle.gateway_state.specs.Numbers.{runs_out}
use Rattle.gateway_state.specs.Step.{run}
use Rattle.gateway_core.proofs.engine.Engine.run.Given as goal

-- running what is left goes on from here to where running all of it would
abbrev pub invariant-loop-event : goal.invariant-loop-event
invariant-loop-event l = record {
  standing : IsSome l.self.state;
  numbers : option_map (λ w. runs_out w l.left.items) l.self.state ≡ option_map (λ w. runs_out w l.fn.events.items) l.fn.self.state;
  no_less : l.fn.self.visits ≤ l.self.visits;
  rest : option_map (λ w. run w l.left.items) l.self.state ≡ option_map (λ w. run w l.fn.events.items) l.fn.self.state;
}

abbrev pub decreases-loop-event : goal.decreases-loop-event
decreases-loop-event l = length l.left.items
