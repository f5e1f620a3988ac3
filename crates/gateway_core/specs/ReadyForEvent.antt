-- What the direct effect of an event rests on.
use Rattle.gateway_state.specs.Gateway.{Gateway}
use Rattle.gateway_state.specs.Settled.{HasCidsApart, HasSessionsConnected, HasSidsApart, HasWriteIdsApart}
use Rattle.gateway_state.specs.Told.{KnowRights}

-- numbers tell rows apart, each session has a connection, and clients know their rights
pub record IsReadyForEvent (w : Gateway) : Type 0 where
  pub sids : HasSidsApart w
  pub cids : HasCidsApart w
  pub sessions : HasSessionsConnected w
  pub ids : HasWriteIdsApart w
  pub told : KnowRights w
