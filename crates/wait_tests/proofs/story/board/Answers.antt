use Rattle.wait_tests.proofs.story.board.Goals as goal

-- the engine was just made
pub new-requires-2 : goal.new-requires-2
new-requires-2 c = record { new = (_, (_, c.in_ok-engine.ensures.state)) }
