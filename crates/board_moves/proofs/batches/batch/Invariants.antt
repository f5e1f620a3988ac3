use Rattle.std.specs.Prelude.{Ok}
use Rattle.board_moves.specs.Answers.{KeepsRings}
use Rattle.board_moves.specs.Noted.{noted_of, StayNoted}
use Rattle.board_moves.specs.Rounds.{IsBatch}
use Rattle.board_moves.proofs.batches.batch.Given as goal

-- one round or more was performed
abbrev pub invariant-loop : goal.invariant-loop
invariant-loop g l =
    IsBatch (noted_of (g.G.GatewayCalls.state l.fn.gate) l.fn.attachments l.fn.news) (Ok l.moved) (noted_of (g.G.GatewayCalls.state l.gate) l.attachments l.news)
    × (KeepsRings l.fn.attachments l.attachments × StayNoted l.fn.news l.news)
