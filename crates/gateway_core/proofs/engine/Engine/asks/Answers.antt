use Rattle.std.proofs.Common.{sym, subst}
use Rattle.std.specs.List.{All}
use Rattle.gateway_rows.proofs.Asked.{reached_served}
use Rattle.gateway_rows.specs.CountedState.{CountedState}
use Rattle.gateway_state.specs.Settled.{IsUpToDate}
use Rattle.gateway_core.proofs.engine.Engine.asks.Goals as goal

-- whatever happened, channels are served
pub asks-requires : goal.asks-requires
asks-requires c = record {
  served =
      subst (λ (rows : CountedState). All (IsUpToDate rows.state) rows.state.clients.channels) (sym c.rows.view_is)
      (reached_served c.in-Some.rows.state (c.self.invariant c.in-Some.rows c.in-Some.is));
}
