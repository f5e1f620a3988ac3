use Rattle.board_rings.proofs.OnRun.{retired}
use Rattle.board_rings.proofs.history_laws.retires_go_on.Goals as goal

pub returns : goal.returns
returns c config policy history dest old new on_run retires = retired config policy history old new on_run dest retires
