use Rattle.std.proofs.Common.{◌≡◌, map}
use Rattle.board_moves.proofs.RoundCalls.{IsPerformed}
use Rattle.board_moves.specs.Answers.{KeepsRings}
use Rattle.board_moves.specs.Noted.{noted_of}
use Rattle.board_moves.specs.Rounds.{dests_of}
use Rattle.board_moves.specs.declared.rounds.RoundCall.TheVariants.{Weigh}
use Rattle.board_moves.specs.declared.news.News.{News}
use Rattle.board_moves.proofs.free_rounds.weigh_all.Given as goal

-- the first n connections were weighed
abbrev pub invariant-loop-n : goal.invariant-loop-n
invariant-loop-n g l =
    ((news : News) → IsPerformed (map (Weigh l.fn.clients) (dests_of l.fn.attachments)) l.n (noted_of (g.G.GatewayCalls.state l.fn.gate) l.fn.attachments news) (noted_of (g.G.GatewayCalls.state l.gate) l.attachments news) 0)
    × ((dests_of l.attachments ≡ dests_of l.fn.attachments) × KeepsRings l.fn.attachments l.attachments)
