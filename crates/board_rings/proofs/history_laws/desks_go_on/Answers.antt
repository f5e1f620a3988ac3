use Rattle.board_rings.proofs.OnRun.{desked}
use Rattle.board_rings.proofs.history_laws.desks_go_on.Goals as goal

pub returns : goal.returns
returns c config policy history event old new on_run desks = desked config policy history old new on_run event desks
