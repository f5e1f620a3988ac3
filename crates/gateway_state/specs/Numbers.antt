-- Numbers that run out.
use Rattle.std.specs.Prelude.{List, [], ◌∷◌, Bool, false, ◌||◌}
use Rattle.link_table.specs.Counters.{are_over}
use Rattle.gateway_state.specs.declared.event.Event.{Event}
use Rattle.gateway_state.specs.Gateway.{Gateway}
use Rattle.gateway_state.specs.Step.{step}

-- to come to this state a number past the last one was given out, which no counter can do: the step
-- has no result
unfoldable pub is_past_numbers : Gateway → Bool
is_past_numbers w = are_over w.upstream.counters

-- a step of these has no result
unfoldable pub runs_out : Gateway → List Event → Bool
runs_out w [] = false
runs_out w (event ∷ events) = is_past_numbers (step w event) || runs_out (step w event) events
