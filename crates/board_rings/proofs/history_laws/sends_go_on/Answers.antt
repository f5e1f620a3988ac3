use Rattle.board_rings.proofs.OnRun.{sent}
use Rattle.board_rings.proofs.history_laws.sends_go_on.Goals as goal

pub returns : goal.returns
returns c config policy history dest found count outs old new on_run sends = sent config policy history old new on_run dest found count outs sends
