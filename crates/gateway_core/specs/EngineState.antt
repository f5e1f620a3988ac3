-- What contracts see of the engine.
use Rattle.std.specs.Prelude.{ℕ, Option, Some, None}
use Rattle.gateway_rows.specs.CountedState.{CountedState}
use Rattle.gateway_state.specs.Gateway.{Gateway}
use Rattle.gateway_state.specs.Reached.{IsReached}

-- its state, none once it failed, and how many rows of clients were looked at
pub record EngineState : Type 0 where
  pub state : Option Gateway
  pub visits : ℕ

-- the rows are those that a run of events reaches
abbrev pub IsRunning : CountedState → Type 0
IsRunning rows = IsReached rows.state

-- how many looks were counted: those of the rows, or, once these are gone, those that there were then
abbrev pub visits_of : Option CountedState → ℕ → ℕ
visits_of None visited = visited
visits_of (Some rows) visited = rows.count.looks
