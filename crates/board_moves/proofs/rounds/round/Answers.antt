use Rattle.std.proofs.Common.{arith}
use Rattle.board_moves.proofs.Changed.{rings_stay}
use Rattle.board_moves.proofs.Moved.{has_rows}
use Rattle.board_moves.proofs.Told.{noted_through}
use Rattle.board_moves.proofs.RoundCalls.{pumps_end, round_ends, round_of, sends_end}
use Rattle.board_moves.specs.Rounds.{IsRound}
use Rattle.board_moves.specs.declared.rounds.RoundCall.TheVariants.{Pump}
use Rattle.board_moves.proofs.rounds.round.Goals as goal

-- a pump was refused
pub returns-in-Err : goal.returns-in-Err
returns-in-Err g c =
    let some = has_rows c.has_failed.result (g.G.GatewayCalls.state c.args.gate.now) c.has_failed.ensures.failed c.if-has_failed.false in
    record {
      round =
          pumps_end Pump IsRound round_of (g.G.GatewayCalls.state c.args.gate.now) (g.G.GatewayCalls.state c.has_failed.new.gate) (g.G.GatewayCalls.state c.pump_all.new.gate) c.args.attachments.now c.pump_all.new.attachments c.args.news.now c.pump_all.new.news c.in-Err.fault some c.has_failed.ensures.same c.in-Err.ensures.calls;
      rings = c.pump_all.ensures.rings;
      kept = c.pump_all.ensures.kept;
    }

-- all calls were performed
pub returns-in-Ok-send_all : goal.returns-in-Ok-send_all
returns-in-Ok-send_all g c =
    let some = has_rows c.has_failed.result (g.G.GatewayCalls.state c.args.gate.now) c.has_failed.ensures.failed c.if-has_failed.false in
    record {
      round =
          round_ends Pump IsRound round_of (g.G.GatewayCalls.state c.args.gate.now) (g.G.GatewayCalls.state c.has_failed.new.gate) (g.G.GatewayCalls.state c.pump_all.new.gate) (g.G.GatewayCalls.state c.send_all.new.gate) c.args.attachments.now c.pump_all.new.attachments c.send_all.new.attachments c.args.news.now c.pump_all.new.news c.send_all.new.news c.in-Ok.received c.in-Ok-send_all.sent
          c.saturating_add.result some c.has_failed.ensures.same c.pump_all.ensures.dests c.in-Ok.ensures.calls c.in-Ok-send_all.ensures.calls (omega (arith, c.saturating_add.ensures));
      rings = rings_stay c.args.attachments.now c.pump_all.new.attachments c.send_all.new.attachments c.pump_all.ensures.rings c.send_all.ensures.rings;
      kept = noted_through c.args.news.now c.pump_all.new.news c.send_all.new.news c.pump_all.ensures.kept c.send_all.ensures.kept;
    }

-- a send-out was refused
pub returns-in-Err-send_all : goal.returns-in-Err-send_all
returns-in-Err-send_all g c =
    let some = has_rows c.has_failed.result (g.G.GatewayCalls.state c.args.gate.now) c.has_failed.ensures.failed c.if-has_failed.false in
    record {
      round =
          sends_end Pump IsRound round_of (g.G.GatewayCalls.state c.args.gate.now) (g.G.GatewayCalls.state c.has_failed.new.gate) (g.G.GatewayCalls.state c.pump_all.new.gate) (g.G.GatewayCalls.state c.send_all.new.gate) c.args.attachments.now c.pump_all.new.attachments c.send_all.new.attachments c.args.news.now c.pump_all.new.news c.send_all.new.news c.in-Ok.received c.in-Err-send_all.fault some
          c.has_failed.ensures.same c.pump_all.ensures.dests c.in-Ok.ensures.calls c.in-Err-send_all.ensures.calls;
      rings = rings_stay c.args.attachments.now c.pump_all.new.attachments c.send_all.new.attachments c.pump_all.ensures.rings c.send_all.ensures.rings;
      kept = noted_through c.args.news.now c.pump_all.new.news c.send_all.new.news c.pump_all.ensures.kept c.send_all.ensures.kept;
    }
