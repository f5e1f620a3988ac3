use Rattle.board_rings.proofs.OnRun.{attached}
use Rattle.board_rings.proofs.history_laws.attaches_go_on.Goals as goal

pub returns : goal.returns
returns c config policy history dest in_ring out_ring free old new on_run attaches = attached config policy history old new on_run dest in_ring out_ring free attaches
