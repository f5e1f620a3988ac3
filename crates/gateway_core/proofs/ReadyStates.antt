-- States that runs reach are ready for an event.
use Rattle.gateway_state.specs.Gateway.{Gateway}
use Rattle.gateway_state.specs.Reached.{IsReached}
use Rattle.gateway_state.proofs.NumbersKept.{reached_numbers}
use Rattle.gateway_state.proofs.SessionsConnected.{reached_sessions}
use Rattle.gateway_state.proofs.ToldRights.{reached_told}
use Rattle.gateway_core.specs.ReadyForEvent.{IsReadyForEvent}

pub reached_is_ready : (w : Gateway) → IsReached w → IsReadyForEvent w
reached_is_ready w reached = record {
  sids = (reached_numbers w reached).channels;
  cids = (reached_numbers w reached).links;
  sessions = reached_sessions w reached;
  ids = (reached_numbers w reached).writes;
  told = reached_told w reached;
}
