use Rattle.std.proofs.Common.{◌≡◌, map}
use Rattle.board_moves.proofs.RoundCalls.{IsPerformed}
use Rattle.board_moves.specs.Answers.{KeepsRings}
use Rattle.board_moves.specs.Noted.{noted_of, StayNoted}
use Rattle.board_moves.specs.Rounds.{dests_of}
use Rattle.board_moves.specs.declared.rounds.RoundCall.TheVariants.{SendOut}
use Rattle.board_moves.proofs.rounds.send_all.Given as goal

-- the calls for the first n connections were performed
abbrev pub invariant-loop-n : goal.invariant-loop-n
invariant-loop-n g l =
    IsPerformed (map SendOut (dests_of l.fn.attachments)) l.n (noted_of (g.G.GatewayCalls.state l.fn.gate) l.fn.attachments l.fn.news) (noted_of (g.G.GatewayCalls.state l.gate) l.attachments l.news) l.moved × ((dests_of l.attachments ≡ dests_of l.fn.attachments) × (KeepsRings l.fn.attachments l.attachments × StayNoted l.fn.news l.news))
