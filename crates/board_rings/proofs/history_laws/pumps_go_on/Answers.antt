use Rattle.board_rings.proofs.OnRun.{pumped}
use Rattle.board_rings.proofs.history_laws.pumps_go_on.Goals as goal

pub returns : goal.returns
returns c config policy history dest item old new on_run pumps = pumped config policy history old new on_run dest item pumps
