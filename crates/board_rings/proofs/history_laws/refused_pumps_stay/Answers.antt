use Rattle.board_rings.proofs.OnRun.{pump_failed}
use Rattle.board_rings.proofs.history_laws.refused_pumps_stay.Goals as goal

pub returns : goal.returns
returns c config policy history dest item old new on_run pumps = pump_failed config policy history old new on_run dest item pumps
