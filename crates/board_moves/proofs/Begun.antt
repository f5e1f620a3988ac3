-- Boards to which nothing happened yet.
use Rattle.std.proofs.Common.{◌≡◌, List, [], Option, Some, subst, sym}
use Rattle.gateway_state.specs.Gateway.{Gateway, initial}
use Rattle.board_rings.specs.Rings.{AttachmentState}
use Rattle.board_rings.proofs.Goes.{new_has_history}
use Rattle.board_rings.specs.History.{HasHistory}
use Rattle.board_moves.specs.Answers.{IsNew}

-- a board for a new engine has a history
pub new_keeps : (rows : Option Gateway) (attachments : List AttachmentState) → IsNew rows → attachments ≡ [] → HasHistory (record { rows = rows; attachments = attachments })
new_keeps rows attachments new none =
    subst (λ (r : Option Gateway). HasHistory (record { rows = r; attachments = attachments })) (sym new.1.1)
    (subst (λ (ls : List AttachmentState). HasHistory (record { rows = Some (initial new.0 new.1.0); attachments = ls })) (sym none) (new_has_history new.0 new.1.0))
