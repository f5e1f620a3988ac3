use Rattle.board_rings.proofs.OnRun.{send_failed}
use Rattle.board_rings.proofs.history_laws.refused_sends_stay.Goals as goal

pub returns : goal.returns
returns c config policy history dest found old new on_run sends = send_failed config policy history old new on_run dest found sends
