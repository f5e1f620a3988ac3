use Rattle.board_rings.proofs.OnRun.{new_board}
use Rattle.board_rings.proofs.history_laws.new_boards_have_no_history.Goals as goal

pub returns : goal.returns
returns c config policy = new_board config policy
