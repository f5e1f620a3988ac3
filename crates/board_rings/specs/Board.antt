-- What contracts see of a board.
use Rattle.std.specs.Prelude.{List, Option}
use Rattle.gateway_state.specs.Gateway.{Gateway}
use Rattle.board_rings.specs.Rings.{AttachmentState}

-- the gateway's rows, none once a step was refused, and the attachments of all attached connections
pub record BoardState : Type 0 where
  pub rows : Option Gateway
  pub attachments : List AttachmentState
