use Rattle.std.proofs.Common.{sym, ap, subst}
use Rattle.gateway_rows.specs.CountedState.{CountedState}
use Rattle.gateway_state.specs.Settled.{HasCidsApart, HasSessionsConnected}
use Rattle.gateway_core.proofs.step.perform.Goals as goal

-- what is known of the rows is known without their count
pub open_session-requires : goal.open_session-requires
open_session-requires c = record { connected = subst HasSessionsConnected (sym (ap (λ (rows : CountedState). rows.state) c.rows.view_is)) c.requires.ready.sessions }

pub find_at-requires : goal.find_at-requires
find_at-requires c = record { order = subst HasCidsApart (sym (ap (λ (rows : CountedState). rows.state) c.rows-in-Found.view_is)) c.requires.ready.cids }
