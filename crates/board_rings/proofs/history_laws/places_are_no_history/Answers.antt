use Rattle.board_rings.proofs.OnRun.{looked}
use Rattle.board_rings.proofs.history_laws.places_are_no_history.Goals as goal

pub returns : goal.returns
returns c config policy history dest found old new on_run rows attachments = looked config policy history old new on_run dest found rows attachments
