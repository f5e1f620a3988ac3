use Rattle.board_rings.proofs.OnRun.{desk_failed}
use Rattle.board_rings.proofs.history_laws.refused_desks_stay.Goals as goal

pub returns : goal.returns
returns c config policy history old new on_run desks = desk_failed config policy history old new on_run desks
