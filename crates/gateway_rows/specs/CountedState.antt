-- What contracts see of the gateway's rows with the count of looks at them.
use Rattle.channel_table.specs.Looks.{Looks}
use Rattle.gateway_state.specs.Gateway.{Gateway}

-- what is known, and how many rows of clients were looked at, under the brand of their table
pub record CountedState : Type 0 where
  pub state : Gateway
  pub count : Looks
